-- No op but a box gives a variable.
use Rattle.std.proofs.Common.{sym, subst, ℕ, Bool, true, false, nat_lt, if◌then◌else◌, List, [], ◌∷◌, Option, Ok, Err, ℤ, IfOk}
use Rattle.ws_base.specs.declared.fault.FaultName.TheVariants.{TooLarge}
use Rattle.ws_base.specs.Outcomes.{Staged, trouble, scalar_of, ◌>>=◌}
use Rattle.ws_base.specs.Numbers.{default_half, reduction}
use Rattle.ws_space.specs.declared.shape.TheConstants.{ELEMENT_LIMIT}
use Rattle.ws_space.specs.Shapes.{dims, size}
use Rattle.ws_space.specs.Sections.{limited}
use Rattle.ws_space.specs.Values.{is_among}
use Rattle.array_meaning.proofs.Chains.{after_each}
use Rattle.hlfir_ops.specs.declared.kinds.ValueKind.{ValueKind}
use Rattle.hlfir_ops.specs.declared.what.What.{What}
use Rattle.hlfir_ops.specs.declared.what.What.TheVariants as what
use Rattle.hlfir_ops.specs.declared.op.ValueId.{ValueId}
use Rattle.hlfir_ops.specs.declared.op.Region.{Region}
use Rattle.hlfir_meaning.specs.Environments.{Selection, Value, part, Environment, with_value, yielding, operand, variable_in, state_in}
use Rattle.hlfir_meaning.specs.References.{allocated, inquired}
use Rattle.hlfir_meaning.specs.Operators.{unary_operation, binary_operation, select_operation, mask_last, reduction_word, operation_value}
use Rattle.hlfir_meaning.specs.Places.{rest_of}
use Rattle.hlfir_meaning.specs.Selections.{extents, checked}
use Rattle.hlfir_meaning.specs.Stage1 as walked
use Rattle.hlfir_meaning.specs.Stage1.{as_scalar, designator, made, is_whole, settled}
use Rattle.hlfir_meaning.specs.Stage2.{whole}
use Rattle.value_laws.proofs.Ops.{given_once}
use Rattle.value_laws.proofs.Walking.{with_value-here}
use Rattle.part_laws.specs.Yielded.{IsNoVariable}

abbrev pub IsNoBox : What → Type 0
IsNoBox what.Boxed = ⊥
IsNoBox w = Unit {0}

as_scalar-plain : (r : Staged ℤ) → IfOk (as_scalar r) IsNoVariable
as_scalar-plain (Ok z) = tt
as_scalar-plain (Err t) = tt

limited_part : (b : Bool) (x : Value) → IsNoVariable x → IfOk (let r : Staged Value = if b then trouble TooLarge else Ok x in r) IsNoVariable
limited_part true x h = tt
limited_part false x h = h

designator-plain : (r : Value) (s : Selection) → IfOk (designator r s) IsNoVariable
designator-plain r s = after_each IsNoVariable (allocated (state_in r)) (λ a. checked (dims a.shape) s >>= (λ t. limited (extents t) (part (variable_in r) a t)))
    (λ a. after_each IsNoVariable (checked (dims a.shape) s) (λ t. limited (extents t) (part (variable_in r) a t))
    (λ t. limited_part (nat_lt ELEMENT_LIMIT (size (extents t))) (part (variable_in r) a t) tt))

made-plain : (n : ℕ) (env : Environment) (w : What) (os : List ValueId) (rs : List Region) → IsNoBox w → IfOk (made n env w os rs) IsNoVariable
made-plain n env (what.Constant c) os rs h = tt
made-plain n env (what.Unary o) os rs h = as_scalar-plain (scalar_of (operation_value (unary_operation o) (walked.scalars env os)))
made-plain n env (what.Binary o) os rs h = as_scalar-plain (scalar_of (operation_value (binary_operation o) (walked.scalars env os)))
made-plain n env what.Select os rs h = as_scalar-plain (scalar_of (operation_value select_operation (mask_last (walked.scalars env os))))
made-plain n env what.Load os rs h = as_scalar-plain (walked.loaded (operand env os))
made-plain n env what.Boxed os rs h = absurd h
made-plain n env (what.Designate subs) os rs h = designator-plain (operand env os) (walked.selection env subs (rest_of os))
made-plain n env what.Vector os rs h = tt
made-plain n env what.AsExpr os rs h = tt
made-plain n env what.Elemental os rs h = tt
made-plain n env (what.Reduce r) os rs h = after_each IsNoVariable (whole (yielding env os)) (λ xs. as_scalar (scalar_of (reduction default_half (reduction_word r) xs))) (λ xs. as_scalar-plain (scalar_of (reduction default_half (reduction_word r) xs)))
made-plain n env w os rs h = as_scalar-plain (inquired w (state_in (operand env os)))

settled-plain : (b : Bool) (n : ℕ) (x : Value) (env : Environment) → IsNoVariable x → IfOk (settled b (yielding (with_value n x env) (record { number = n } ∷ []))) IsNoVariable
settled-plain true n x env h = after_each IsNoVariable (whole (yielding (with_value n x env) (record { number = n } ∷ []))) (λ xs. Ok (walked.vector xs)) (λ xs. tt)
settled-plain false n x env h = subst IsNoVariable (sym (with_value-here n x env)) h

after_made : (r : Staged Value) (f : Value → Staged Value) → IfOk r IsNoVariable → ((x : Value) → IsNoVariable x → IfOk (f x) IsNoVariable) → IfOk (r >>= f) IsNoVariable
after_made (Ok x) f h g = g x h
after_made (Err t) f h g = tt

pub once-plain : (w : What) (line : ℕ) (os : List ValueId) (kind : Option ValueKind) (rs : List Region) (vectors : List ℕ) (n : ℕ) (env : Environment) → IsNoBox w → IfOk (given_once w line os kind rs vectors n env) IsNoVariable
once-plain w line os kind rs vectors n env h = after_made (made n env w os rs) (λ x. settled (is_whole w (is_among n vectors)) (yielding (with_value n x env) (record { number = n } ∷ []))) (made-plain n env w os rs h)
    (λ x g. settled-plain (is_whole w (is_among n vectors)) n x env g)
