-- What the declarations of a source make known.
use Rattle.std.specs.Prelude.{ℕ, suc, Bool, true, false, List, [], ◌∷◌, map, Option, Some, None, ℤ, pos}
use Rattle.std.specs.List.{flat_map}
use Rattle.ws_base.specs.declared.name.Name.{Name}
use Rattle.ws_space.specs.declared.shape.Dim.{Dim}
use Rattle.ws_space.specs.declared.shape.Shape.{Shape}
use Rattle.ws_space.specs.Shapes.{unused, shape_of, declared_dim}
use Rattle.ws_tree.specs.declared.expr.Expr.{Expr}
use Rattle.ws_tree.specs.declared.expr.Expr.TheVariants.{Truth}
use Rattle.ws_tree.specs.declared.stmt.Bound.{Bound}
use Rattle.ws_tree.specs.declared.stmt.Bound.TheVariants as bound
use Rattle.ws_tree.specs.declared.stmt.Decl.{Decl}
use Rattle.ws_tree.specs.declared.stmt.Tree.{Tree}
use Rattle.ws_types.specs.declared.constant.Constant.{Constant}
use Rattle.ws_types.specs.declared.constant.Constancy.{Constancy}
use Rattle.ws_types.specs.declared.constant.Constancy.TheVariants.{Value}
use Rattle.ws_types.specs.Constants.{constancy}
use Rattle.ws_sema.specs.Declarations.{constants_after}
use Rattle.hlfir_ops.specs.declared.kinds.Elem.{Elem}
use Rattle.hlfir_ops.specs.declared.kinds.Elem.TheVariants.{I32, I1}
use Rattle.hlfir_ops.specs.declared.kinds.ValueKind.{ValueKind}
use Rattle.hlfir_ops.specs.declared.kinds.ValueKind.TheVariants.{Place, Declared, Allocatable}
use Rattle.lower_values.specs.declared.names.NamedTruth.{NamedTruth}
use Rattle.lower_values.specs.declared.names.Names.{Names}
use Rattle.lower_values.specs.declared.names.Variable.{Variable}

-- ---- kinds of variables

abbrev pub value_or_zero : Constancy → ℤ
value_or_zero (Value z) = z
value_or_zero _ = pos 0

abbrev pub elem : Bool → Elem
elem true = I1
elem false = I32

-- In an accepted source each bound of a declared array has a value.
abbrev pub bound_dim : List Constant → Bound → Dim
bound_dim cs (bound.Upper u) = declared_dim (pos 1) (value_or_zero (constancy cs u))
bound_dim cs (bound.Both l u) = declared_dim (value_or_zero (constancy cs l)) (value_or_zero (constancy cs u))
bound_dim cs bound.Deferred = unused

abbrev pub declared_shape : List Constant → List Bound → Shape
declared_shape cs bs = shape_of (map (bound_dim cs) bs)

abbrev pub declared_kind : Elem → Shape → List Bound → ValueKind
declared_kind e shape [] = Place e
declared_kind e shape (b ∷ bs) = Declared e shape

abbrev pub variable_kind : Bool → Elem → Shape → List Bound → ValueKind
variable_kind true e shape bs = Allocatable e shape.rank
variable_kind false e shape bs = declared_kind e shape bs

abbrev pub kind_of : List Constant → Decl → ValueKind
kind_of cs d = variable_kind d.allocatable (elem d.truth) (declared_shape cs d.shape) d.shape

-- ---- variables and LOGICAL constants, in order of declaration

abbrev pub variable : ℕ → List Constant → Decl → Variable
variable n cs d = record { name = d.name; declare = record { value = record { number = n }; kind = kind_of cs d } }

abbrev pub declares_variable : Option Expr → Bool
declares_variable None = true
declares_variable (Some e) = false

abbrev pub if_variable : Bool → Decl → List Decl
if_variable true d = d ∷ []
if_variable false d = []

-- those that declare no named constant
abbrev pub variable_decls : List Decl → List Decl
variable_decls = flat_map (λ d. if_variable (declares_variable d.constant) d)

-- the declares are numbered from n on
abbrev pub numbered : ℕ → List Constant → List Decl → List Variable
numbered n cs [] = []
numbered n cs (d ∷ ds) = variable n cs d ∷ numbered (suc n) cs ds

abbrev pub truth_rows : Bool → Name → Option Expr → List NamedTruth
truth_rows true x (Some (Truth b)) = record { name = x; value = b } ∷ []
truth_rows _ x e = []

abbrev pub truths_of : List Decl → List NamedTruth
truths_of = flat_map (λ d. truth_rows d.truth d.name d.constant)

-- all of a source
abbrev pub names_of : Tree → Names
names_of t = record {
  variables = numbered 0 (constants_after [] t.decls) (variable_decls t.decls);
  constants = constants_after [] t.decls;
  truths = truths_of t.decls;
}
