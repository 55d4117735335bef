-- Left sides inside a FORALL: the places of an element at the combinations.
use Rattle.std.proofs.Common.{◌≡◌, sym, ap, ◌∙◌, subst, ℕ, true, List, [], ◌++◌, Some}
use mathlib.Core.Former.{Count}
use Rattle.ws_base.specs.declared.name.Name.{Name}
use Rattle.ws_base.specs.Outcomes.{◌>>=◌, each, rows}
use Rattle.ws_space.specs.Values.{state_of}
use Rattle.ws_tree.specs.Trees.{Subs}
use Rattle.ws_tree.specs.Grammatical.{AreSubs, HasSubs}
use Rattle.ws_types.specs.declared.types.Typed.{Typed}
use Rattle.ws_types.specs.declared.types.Row.{Row}
use Rattle.ws_types.specs.Names.{standing_of}
use Rattle.ws_types.specs.Operations.{no_subscripts, part_faults, part_type}
use Rattle.ws_types.specs.Expressions.{listed, how_many, named_type, named_faults, typed, faults, arguments, all_faults, subs_faults, called_type, called_faults}
use Rattle.ws_types.specs.Expressions as types
use Rattle.ws_sema.proofs.NoFaults.{none_first, none_after}
use Rattle.array_meaning.specs.declared.world.World.{World}
use Rattle.array_meaning.specs.Forall as source
use Rattle.array_meaning.specs.Forall.{Combination}
use Rattle.hlfir_meaning.specs.Environments.{Environment}
use Rattle.hlfir_meaning.specs.Places.{place_in}
use Rattle.lower_values.specs.Scopes.{Scope}
use Rattle.lower_values.specs.Values.{part_of, subscripts}
use Rattle.kind_laws.specs.Standing.{Knows}
use Rattle.kind_laws.proofs.TypeFacts.{part_result}
use Rattle.kind_laws.proofs.TypesKnown.{name_known}
use Rattle.world_laws.proofs.Fitting.{state_fits}
use Rattle.forall_laws.specs.Walks.{DoesOver, ArePlaces}
use Rattle.forall_laws.specs.Combined.{StandsOver}
use Rattle.forall_laws.proofs.Ranks.{IsVariable}
use Rattle.forall_laws.proofs.Forms.{bind-same}
use Rattle.forall_laws.proofs.Columns.{rows-over, places-same}
use Rattle.forall_laws.proofs.Expressions.{combined, places, part_placed, over-subscripts}

module _ (t : List Row) (line : ℕ) (s : Scope) (k : Knows t s) (at : List ℕ) (of : ℕ → Combination) (w : World) where
  targets_same : {m : Count} (x : Name) (subs : Subs m) → places t line s k at of w x subs ≡ (source.over_subs w subs (combined t line s k at of w) >>= (λ cs. each (source.place_in (state_of w.vars x)) (rows (combined t line s k at of w) cs)))
  targets_same x subs = bind-same (source.over_subs w subs (combined t line s k at of w)) (λ cs. each (place_in (state_of w.vars x)) (rows at cs)) (λ cs. each (source.place_in (state_of w.vars x)) (rows (combined t line s k at of w) cs))
      (λ cs. sym (places-same (state_of w.vars x) (rows at cs)) ∙ ap (each (source.place_in (state_of w.vars x))) (sym (rows-over of at cs)))

  -- the places of an element, which the source has as those of its target
  pub over-target : {m : Count} (x : Name) (subs : Subs m) (ty : Typed) → HasSubs subs → AreSubs subs → (named_faults t line x ++ subs_faults t true line subs ++ part_faults line (named_type t x) (how_many subs)) ≡ [] →
      part_type (named_type t x) (how_many subs) (types.subscripts t true no_subscripts subs) ≡ Some ty → ty.rank ≡ 0 → (n : ℕ) (env : Environment) (stands : StandsOver at of s w n env) (d : IsVariable s x) →
      DoesOver at s n env (part_of x (λ r. subscripts r 1 subs)) (source.over_subs w subs (combined t line s k at of w) >>= (λ cs. each (source.place_in (state_of w.vars x)) (rows (combined t line s k at of w) cs))) (ArePlaces (state_fits s.names w x d.0 stands.world d.1).var)
  over-target x subs ty some are f h z n env stands d =
      let first = name_known line (standing_of t x) (none_first _ _ (none_first _ _ f)) in
      let select = types.subscripts t true no_subscripts subs in
      let zero : select.rank ≡ 0 = ap (λ y. y.rank) (part_result (named_type t x) (how_many subs) select first.0 ty first.1 h) ∙ z in
      subst (λ r. DoesOver at s n env (part_of x (λ r. subscripts r 1 subs)) r (ArePlaces (state_fits s.names w x d.0 stands.world d.1).var)) (targets_same x subs)
      (part_placed t line s k at of w x subs d (λ r m middle there. over-subscripts t line s k at of w r 1 no_subscripts subs are (none_after _ _ (none_first _ _ f)) zero m middle there) n env stands)
