-- Inside a FORALL arrays of elements, and names that are asked about, are variables.
use Rattle.std.proofs.Common.{◌≡◌, sym, ap, ◌∙◌, ℕ, ◌<◌, Bool, true, false, not, ◌&&◌, List, [], Option, Some, None, true≢false, arith}
use mathlib.Core.Former.{Count}
use Rattle.ws_base.specs.declared.name.Name.{Name}
use Rattle.ws_base.specs.declared.op.CallWord.{CallWord}
use Rattle.ws_base.specs.declared.refusal.RefusalKind.TheVariants as kind
use Rattle.ws_tree.specs.declared.expr.Expr.{Expr}
use Rattle.ws_tree.specs.Trees.{Subs}
use Rattle.ws_tree.specs.Grammatical.{HasSubs}
use Rattle.ws_types.specs.declared.types.Typed.{Typed}
use Rattle.ws_types.specs.declared.types.Row.{Row}
use Rattle.ws_types.specs.declared.types.Entry.{Entry}
use Rattle.ws_types.specs.declared.types.Standing.{Standing}
use Rattle.ws_types.specs.declared.types.Standing.TheVariants.{Declared, Active, Index, Barred}
use Rattle.ws_types.specs.Names.{standing_of, name_type, name_faults, entry_type, is_no_allocatable}
use Rattle.ws_types.specs.Operations.{part_faults, is_allocated_word, is_outside, is_outside_type, inquiry_faults}
use Rattle.ws_types.specs.Expressions.{how_many, named_type, named_faults}
use Rattle.ws_sema.proofs.NoFaults.{none_first, none_after, not_broken, impossible}
use Rattle.lower_values.specs.declared.operand.Operand.{Operand}
use Rattle.lower_values.specs.Scopes.{Scope}
use Rattle.lower_values.specs.References.{variable_of}
use Rattle.kind_laws.specs.Standing.{EntryIsKnown, NameIsKnown, Knows}
use Rattle.kind_laws.proofs.TypeFacts.{no_type, same_type}
use Rattle.kind_laws.proofs.TypesKnown.{name_known}
use Rattle.kind_laws.proofs.FormsMade.{part_rank}
use Rattle.kind_laws.proofs.ScalarRanks.{outside_zero}

abbrev pub IsVariable : Scope → Name → Type 0
IsVariable s x = (d : Operand) × (variable_of s.names.variables x ≡ Some d)

entry_variable : (c : Bool) (s : Scope) (x : Name) (e : Entry) → EntryIsKnown c s.names x e → (e.rank ≡ 0 → e.allocatable ≡ false → ⊥) → IsVariable s x
entry_variable true s x e h never = absurd (never h.1 h.2)
entry_variable false s x e h never = (h.0, h.1)

ranked : (s : Scope) (x : Name) (st : Option Standing) (a : Typed) → NameIsKnown s x st → name_type st ≡ Some a → 0 < a.rank → IsVariable s x
ranked s x None a h t l = no_type a t
ranked s x (Some (Declared e)) a h t l = entry_variable e.constant s x e h.1 (λ z _. let r = ap (λ y. y.rank) (same_type (entry_type e) a t) in omega (arith, r, z, l))
ranked s x (Some (Active e)) a h t l = (h.2.0, h.2.1)
ranked s x (Some Index) a h t l = absurd (let r = ap (λ y. y.rank) (same_type _ a t) in omega (arith, r, l))
ranked s x (Some Barred) a h t l = no_type a t

-- the array of an element
pub part_variable : {m : Count} (t : List Row) (line : ℕ) (s : Scope) (x : Name) (subs : Subs m) → Knows t s → HasSubs subs → named_faults t line x ≡ [] → part_faults line (named_type t x) (how_many subs) ≡ [] → IsVariable s x
part_variable t line s x subs k some f g =
    let type = name_known line (standing_of t x) f in ranked s x (standing_of t x) type.0 (k x) type.1 (part_rank line (named_type t x) type.0 subs type.1 some g)

-- what an inquiry asks about
asked : (s : Scope) (x : Name) (st : Option Standing) (line : ℕ) (b : Bool) (es : List Expr) → NameIsKnown s x st → name_faults line st ≡ [] → (not b && is_outside_type (name_type st) es) ≡ false → (b && is_no_allocatable st) ≡ false → IsVariable s x
unfolding name_faults
asked s x None line b es h f o a = impossible line kind.Undeclared (none_first _ _ f)
asked s x (Some (Declared e)) line true es h f o a = entry_variable e.constant s x e h.1 (λ z n. true≢false (sym (ap not n) ∙ a))
asked s x (Some (Declared e)) line false es h f o a = entry_variable e.constant s x e h.1 (λ z n. true≢false (sym (outside_zero es) ∙ (ap (λ r. is_outside r es) (sym z) ∙ o)))
asked s x (Some (Active e)) line b es h f o a = (h.2.0, h.2.1)
asked s x (Some Index) line true es h f o a = absurd (true≢false a)
asked s x (Some Index) line false es h f o a = absurd (true≢false (sym (outside_zero es) ∙ o))
asked s x (Some Barred) line b es h f o a = impossible line kind.DoVariable (none_after _ _ f)

pub inquiry_variable : (t : List Row) (line : ℕ) (s : Scope) (w : CallWord) (x : Name) (es : List Expr) → Knows t s → inquiry_faults line w (standing_of t x) es ≡ [] → IsVariable s x
unfolding inquiry_faults
inquiry_variable t line s w x es k f =
    let first = none_first _ _ f in
    asked s x (standing_of t x) line (is_allocated_word w) es (k x) (none_first _ _ (none_first _ _ first)) (not_broken _ _ _ (none_after _ _ (none_first _ _ first))) (not_broken _ _ _ (none_after _ _ first))
