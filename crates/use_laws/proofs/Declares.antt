-- The declares of a source: they use nothing, and give the variables.
use Rattle.std.proofs.Common.{◌≡◌, refl, sym, ap, ◌∙◌, subst, inl, inr, ℕ, suc, ◌+◌, Bool, true, false, List, [], ◌∷◌, ◌++◌, map, length, Option, Some, None, arith, append-nil}
use Rattle.std.specs.List.{AllByRecursion}
use Rattle.std.specs.Prelude.{bytes_eq, if◌then◌else◌}
use Rattle.std.proofs.lemmas.Bool.{false≢true, true≢false}
use Rattle.ws_base.specs.declared.refusal.RefusalKind.TheVariants as kind
use Rattle.ws_space.specs.declared.shape.Shape.{Shape}
use Rattle.ws_tree.specs.declared.expr.Expr.{Expr}
use Rattle.ws_tree.specs.declared.stmt.Bound.{Bound}
use Rattle.ws_tree.specs.declared.stmt.Decl.{Decl}
use Rattle.ws_types.specs.declared.constant.Constant.{Constant}
use Rattle.ws_types.specs.declared.types.Standing.{Standing}
use Rattle.ws_types.specs.Names.{Name, standing_of}
use Rattle.ws_sema.specs.Declarations.{is_some, is_empty, is_left_out, shape_faults, with_constant, decls_faults, row_of, table_of}
use Rattle.ws_sema.proofs.NoFaults.{none_first, none_after, not_broken}
use Rattle.hlfir_ops.specs.declared.kinds.Elem.{Elem}
use Rattle.hlfir_ops.specs.declared.what.What.TheVariants as what
use Rattle.hlfir_ops.specs.declared.op.Op.{Op, Op-F, out-roll-Op}
use Rattle.hlfir_ops.specs.declared.op.Region.{Region}
use Rattle.hlfir_ops.specs.Numbers.{op_numbers, numbers_of, op_kinds, kinds_of}
use Rattle.hlfir_ops.specs.RulesValues.{is_expression}
use Rattle.hlfir_ops.specs.RulesPlaces.{from_number, own_defined}
use Rattle.hlfir_ops.proofs.Numbered.{op_numbers-op_of}
use Rattle.hlfir_ops.proofs.Sites.{defined_by}
use Rattle.lower_values.specs.declared.names.Variable.{Variable}
use Rattle.lower_assign.specs.Known.{declared_kind, variable_kind, declares_variable, if_variable, variable_decls, numbered}
use Rattle.use_laws.proofs.Counting.{hit, hit-other, IsArrayAt}
use Rattle.use_laws.proofs.Defined.{In}
use Rattle.kind_laws.proofs.DeclaresFound.{declare_op}
use Rattle.use_laws.proofs.Uses.{Uses, uses-none, uses-append, uses-op, inner-none, op_kinds-is}
use Rattle.use_laws.proofs.Standing.{IsNoVariable, HasNoVariables, IsFreeVariable}

-- it is no value of an array expression
abbrev pub IsPlain : Variable → Type 0
IsPlain v = is_expression (Some v.declare.kind) ≡ false

module _ (line : ℕ) where
  one-number : (v : Variable) → op_numbers (declare_op line v) ≡ 1
  one-number v = op_numbers-op_of (what.Declare v.name) line [] (Some v.declare.kind) [] ∙ omega arith

  pub declares-kinds : (vs : List Variable) → kinds_of (map (declare_op line) vs) ≡ map (λ v. v.declare.kind) vs
  declares-kinds [] = refl
  declares-kinds (v ∷ vs) =
      ap (λ l. op_kinds (declare_op line v) ++ l) (declares-kinds vs)
      ∙ ap (λ l. l ++ map (λ w. w.declare.kind) vs) (sym (append-nil (op_kinds (declare_op line v))) ∙ op_kinds-is (what.Declare v.name) line [] (Some v.declare.kind) [])

  declares-defined : (n : ℕ) (vs : List Variable) → defined_by n (map (declare_op line) vs) ≡ from_number n vs
  declares-defined n [] = refl
  declares-defined n (v ∷ vs) =
      ap (λ (f : Op-F Op Region). own_defined n f.kind ++ defined_by (op_numbers (declare_op line v) + n) (map (declare_op line) vs))
      (out-roll-Op (record { what = what.Declare v.name; line = line; operands = []; kind = Some v.declare.kind; regions = [] }))
      ∙ (ap (λ m. n ∷ defined_by m (map (declare_op line) vs)) (omega (arith, one-number v)) ∙ ap (λ l. n ∷ l) (declares-defined (suc n) vs))

  pub declares-use : (k n : ℕ) (D : List ℕ) (vs : List Variable) → AllByRecursion IsPlain vs → IsArrayAt k n (map (λ v. v.declare.kind) vs) → Uses k n D (map (declare_op line) vs) 0 0
  declares-use k n D [] plain strict = uses-none k n D 0
  declares-use k n D (v ∷ vs) plain strict =
      let op = declare_op line v in
      let one : hit k n + 0 ≡ 0 = omega (arith, hit-other k n (λ e. false≢true (sym plain.0 ∙ strict.0 e))) in
      let here : Uses k n D (op ∷ []) 0 0 = subst (λ c. Uses k n D (op ∷ []) 0 c) one (uses-op (what.Declare v.name) line [] (Some v.declare.kind) [] k n D 0 tt (inner-none k 0 (n + 1) D (what.Declare v.name))) in
      let number : suc n ≡ n + numbers_of (op ∷ []) = omega (arith, one-number v) in
      let later = declares-use k (n + numbers_of (op ∷ [])) (D ++ defined_by n (op ∷ [])) vs plain.1 (subst (λ m. IsArrayAt k m (map (λ w. w.declare.kind) vs)) number strict.1) in
      uses-append k n D (op ∷ []) (map (declare_op line) vs) 0 0 0 0 here later

-- ---- the variables

declared-plain : (e : Elem) (shape : Shape) (bs : List Bound) → is_expression (Some (declared_kind e shape bs)) ≡ false
declared-plain e shape [] = refl
declared-plain e shape (b ∷ bs) = refl

variable-plain : (allocatable : Bool) (e : Elem) (shape : Shape) (bs : List Bound) → is_expression (Some (variable_kind allocatable e shape bs)) ≡ false
variable-plain true e shape bs = refl
variable-plain false e shape bs = declared-plain e shape bs

pub numbered-plain : (n : ℕ) (cs : List Constant) (ds : List Decl) → AllByRecursion IsPlain (numbered n cs ds)
numbered-plain n cs [] = tt
numbered-plain n cs (d ∷ ds) = (variable-plain d.allocatable _ _ d.shape, numbered-plain (suc n) cs ds)

numbered-free : (k n : ℕ) (E : List ℕ) (cs : List Constant) (ds : List Decl) → IsArrayAt k n (map (λ v. v.declare.kind) (numbered n cs ds)) → ((x : ℕ) → In (from_number n (numbered n cs ds)) x → In E x) →
    AllByRecursion (IsFreeVariable k E) (numbered n cs ds)
numbered-free k n E cs [] strict h = tt
numbered-free k n E cs (d ∷ ds) strict h =
    (record { defined = h n (inl refl); other = λ e. false≢true (sym (numbered-plain n cs (d ∷ ds)).0 ∙ strict.0 e) }, numbered-free k (suc n) E cs ds strict.1 (λ x i. h x (inr i)))

pub declared-free : (k line : ℕ) (cs : List Constant) (ds : List Decl) → IsArrayAt k 0 (map (λ v. v.declare.kind) (numbered 0 cs ds)) → AllByRecursion (IsFreeVariable k (defined_by 0 (map (declare_op line) (numbered 0 cs ds)))) (numbered 0 cs ds)
declared-free k line cs ds strict =
    let vs = numbered 0 cs ds in numbered-free k 0 (defined_by 0 (map (declare_op line) vs)) cs ds strict (λ x i. subst (λ l. In l x) (sym (declares-defined line 0 vs)) i)

-- ---- a table of named constants

named : (o : Option Expr) (d : Decl) → if_variable (declares_variable o) d ≡ [] → is_some o ≡ true
named None d e = cc
named (Some x) d e = refl

-- a named constant is no array, and no allocatable
plain_constant : (allocatable constant : Bool) (bs : List Bound) → constant ≡ true → is_left_out allocatable constant (is_empty bs) ≡ false → (length bs ≡ 0) × (allocatable ≡ false)
plain_constant allocatable false bs h e = absurd (false≢true h)
plain_constant false true [] h e = (refl, refl)
plain_constant true true [] h e = absurd (true≢false e)
plain_constant false true (b ∷ bs) h e = absurd (true≢false e)
plain_constant true true (b ∷ bs) h e = absurd (true≢false e)

fits_shape : (cs : List Constant) (d : Decl) → shape_faults cs d ≡ [] → is_left_out d.allocatable (is_some d.constant) (is_empty d.shape) ≡ false
unfolding shape_faults
fits_shape cs d f = not_broken (is_left_out d.allocatable (is_some d.constant) (is_empty d.shape)) d.line kind.Unsupported (none_first _ _ f)

no_standing : (b : Bool) (s other : Option Standing) → IsNoVariable s → IsNoVariable other → IsNoVariable (if b then s else other)
no_standing true s other h g = h
no_standing false s other h g = g

nothing_left : (ds es : List Decl) → ds ++ es ≡ [] → (ds ≡ []) × (es ≡ [])
nothing_left [] es e = (refl, e)
nothing_left (d ∷ ds) es e = cc

no_names : (before : List Decl) (cs : List Constant) (ds : List Decl) → decls_faults before cs ds ≡ [] → variable_decls ds ≡ [] → (x : Name) → IsNoVariable (standing_of (table_of ds) x)
no_names before cs [] f none x = tt
no_names before cs (d ∷ ds) f none x =
    let parts = nothing_left (if_variable (declares_variable d.constant) d) (variable_decls ds) none in
    let constant = named d.constant d parts.0 in
    let plain = plain_constant d.allocatable (is_some d.constant) d.shape constant (fits_shape cs d (none_after _ _ (none_first _ _ f))) in
    no_standing (bytes_eq d.name x) (Some (row_of d).standing) (standing_of (table_of ds) x) (constant, plain.0, plain.1)
    (no_names (before ++ d ∷ []) (with_constant cs d) ds (none_after _ _ f) parts.1 x)

pub no_variables : (ds : List Decl) → decls_faults [] [] ds ≡ [] → variable_decls ds ≡ [] → HasNoVariables (table_of ds)
no_variables ds f none = record { each = no_names [] [] ds f none }
