-- A left side in which no rule is broken means what its source means.
use Rattle.std.proofs.Common.{◌≡◌, refl, sym, ap, ◌∙◌, subst, ℕ, ◌+◌, ◌<◌, Bool, true, false, List, [], ◌∷◌, ◌++◌, length, Some}
use Rattle.std.specs.Prelude.{not, ◌&&◌}
use Rattle.std.proofs.lemmas.Bool.{true≢false}
use Rattle.std.proofs.lemmas.List.{append-nil}
use mathlib.Core.Former.{Count}
use Rattle.ws_base.specs.declared.name.Name.{Name}
use Rattle.ws_base.specs.declared.refusal.RefusalKind.TheVariants as refusal
use Rattle.ws_space.specs.Values.{is_among, state_of, held}
use Rattle.ws_tree.specs.Trees.{Subs}
use Rattle.ws_tree.specs.Grammatical.{IsDesignator, HasSubs}
use Rattle.ws_tree.specs.declared.expr.Expr.{Expr}
use Rattle.ws_tree.specs.declared.expr.Expr.TheVariants.{Named, Part', TooDeep}
use Rattle.ws_types.specs.declared.types.Row.{Row}
use Rattle.ws_types.specs.Kinds.{when}
use Rattle.ws_types.specs.Names.{standing_of, target_faults}
use Rattle.ws_types.specs.Expressions.{faults, how_many, wide_faults}
use Rattle.ws_sema.specs.Statements.{target_standing, is_designator, left_faults}
use Rattle.ws_sema.proofs.NoFaults.{none_first, none_after, not_broken}
use Rattle.array_meaning.specs.declared.world.World.{World}
use Rattle.array_meaning.specs.Assign as assigned
use Rattle.hlfir_ops.specs.declared.kinds.ValueKind.{ValueKind}
use Rattle.hlfir_ops.specs.declared.kinds.ValueKind.TheVariants as kind
use Rattle.hlfir_ops.specs.declared.what.What.TheVariants as what
use Rattle.hlfir_ops.specs.Numbers.{numbers_of}
use Rattle.hlfir_meaning.specs.Environments.{Environment, of_variables}
use Rattle.hlfir_meaning.specs.Stage1.{subscript_numbers}
use Rattle.lower_values.specs.declared.operand.Operand.{Operand}
use Rattle.lower_values.specs.Lowerings.{Lowering, done, ◌>>=◌ as ◌then◌}
use Rattle.lower_values.specs.References.{variable_of, reference, load_of, loaded}
use Rattle.lower_values.specs.Scopes.{Scope}
use Rattle.lower_assign.specs.Statements.{yielded, left_of, is_whole_allocatable}
use Rattle.lower_values.specs.Values.{part_of, subscripts}
use Rattle.value_laws.specs.Names.{Agrees}
use Rattle.value_laws.specs.Sound.{IsSoundPart, AreSoundSubs, AreClearSubs}
use Rattle.value_laws.proofs.ClearExpressions.{clear-subs}
use Rattle.value_laws.proofs.ClearSubscripts.{part-clear}
use Rattle.value_laws.proofs.ClearForms.{and-false, one-giving}
use Rattle.value_laws.proofs.VectorNumbers.{or-false, subscripts-append}
use Rattle.value_laws.proofs.Yielding.{yielded-vectors}
use Rattle.part_laws.specs.Laws.{part_selected}
use Rattle.part_laws.specs.Lefts.{region_of}
use Rattle.part_laws.proofs.Lefts.{left-parts-reach, left-names-reach, left-declares-reach}
use Rattle.world_laws.specs.Meanings.{StandsOutside}
use Rattle.world_laws.specs.Yields.{IsOfName, Reaches}
use Rattle.region_laws.proofs.Agreeing.{small-ranks, declare-held, declare-name, name-held}
use Rattle.region_laws.proofs.Values.{agrees-outside}
use Rattle.region_laws.proofs.Lefts.{section_target, part-target, boxed-reaches, part-reaches, declared-reaches}
use Rattle.region_laws.proofs.Sides.{variable-name, part-sound, part-named}

-- ---- the load of an element takes no vector subscript

module _ (s : Scope) (n : ℕ) where
  load_none : (k : ValueKind) (x : Operand) → subscript_numbers (load_of k x s n).ops ≡ []
  unfolding done
  load_none (kind.Place e) x = (one-giving s n what.Load (x.value ∷ []) (kind.Scalar e) refl).none
  load_none k x = refl

  loaded_none : (x : Operand) → subscript_numbers (loaded x s n).ops ≡ []
  unfolding loaded
  loaded_none x = load_none x.kind x

then_loaded : (p : Lowering Operand) (s : Scope) (n : ℕ) → subscript_numbers ((p then loaded) s n).ops ≡ subscript_numbers (p s n).ops
unfolding ◌then◌
then_loaded p s n =
    let a = p s n in
    let m = n + numbers_of a.ops in
    subscripts-append a.ops (loaded a.made s m).ops ∙ (ap (λ ns. subscript_numbers a.ops ++ ns) (loaded_none s m a.made) ∙ append-nil (subscript_numbers a.ops))

module _ (t : List Row) (line : ℕ) (by_box : Bool) (s : Scope) (n : ℕ) (w : World) (h : StandsOutside t s w n) where
  abbrev env : Environment
  env = of_variables w.vars

  abbrev base : ℕ
  base = length w.vars

  agreed : Agrees s.names base w env
  agreed = agrees-outside t line s n w h

  abbrev Goal : Expr → Type 0
  Goal e = Reaches w e (not by_box && is_whole_allocatable s.names e) n (yielded (left_of by_box e) s n).ops (assigned.target by_box w e)

  -- ---- whole variables

  name_reaches : (b : Bool) (x : Name) (d : Operand) → variable_of s.names.variables x ≡ Some d →
      Reaches w (Named x) (not b && is_whole_allocatable s.names (Named x)) n (yielded (left_of b (Named x)) s n).ops (assigned.target b w (Named x))
  name_reaches true x d is =
      let g = name-held s.names w h.world env (λ k low. refl) x d is in
      boxed-reaches w (Named x) n (yielded (left_of true (Named x)) s n).ops g.0.var (state_of w.vars x) g.0.holds g.1 (assigned.held_by (held (state_of w.vars x))) refl (left-names-reach base s w n env h.declared x g.0)
  name_reaches false x d is =
      let g = name-held s.names w h.world env (λ k low. refl) x d is in
      let ended = left-declares-reach base s w n env x g.0 in
      let ops = (yielded (left_of false (Named x)) s n).ops in
      subst (λ b. Reaches w (Named x) b n ops (assigned.target false w (Named x))) (h.world.allocatables x)
      (declared-reaches w (Named x) n ops g.0.var (state_of w.vars x) g.0.holds g.1 ended.0 ended.1 ended.2 (assigned.is_name_in w.allocatables x))

  -- ---- parts

  module _ {k : Count} (x : Name) (subs : Subs k) (sound : IsSoundPart true s x (how_many subs) (AreSoundSubs true s subs)) (some : HasSubs subs) where
    abbrev p : Lowering Operand
    p = part_of x (λ r. subscripts r 1 subs)

    abbrev vectors : List ℕ
    vectors = subscript_numbers (region_of p s n).ops

    below : (y : Name) (d : Operand) → variable_of s.names.variables y ≡ Some d → d.value.number < base
    below y d is = (agreed.variables y d is).1.below

    clear_subs : AreClearSubs vectors s (reference x s n).made 1 (n + numbers_of (reference x s n).ops) subs
    clear_subs = part-clear base s below true vectors x subs false n h.declared sound.0 sound.1 sound.3 (clear-subs base s below true vectors subs) (record {
      are = λ i low high. ap (is_among i) (yielded-vectors s n env p ∙ sym (then_loaded p s n)) ∙ sym (or-false (is_among i (subscript_numbers ((p then loaded) s n).ops)));
    })

    part_reaches : (e : Expr) → assigned.target_name e ≡ x → Reaches w e false n (yielded p s n).ops (section_target (part_selected w x subs))
    part_reaches e same =
        let d = sound.0 in
        let stands = declare-held s.names w h.world env (λ j low. refl) x d sound.1 in
        part-reaches w e n (yielded p s n).ops stands.var
        (subst (λ y. IsOfName w y stands.var) (sym same) (declare-name s.names w h.world env (λ j low. refl) x d sound.1))
        (part_selected w x subs)
        (left-parts-reach k base s w (small-ranks s.names w h.world) n env h.declared agreed x d sound.1 (part-named subs some d.kind (state_of w.vars x) stands.fits sound.2) stands subs sound.2 sound.3 clear_subs)

  -- ---- any left side

  none_left : (e : Expr) → left_faults t false line e ≡ [] → (faults t false line e ≡ []) × (target_faults line (target_standing t e) ≡ [])
  none_left e f =
      let first = faults t false line e in
      let second = target_faults line (target_standing t e) in
      let two = none_first (first ++ second) (when (not (is_designator e)) line refusal.Unsupported) f in
      (none_first first second two, none_after first second two)

  left_side : (e : Expr) → IsDesignator e → faults t false line e ≡ [] → target_faults line (target_standing t e) ≡ [] → Goal e
  unfolding wide_faults
  left_side (Named x) g f target = let d = variable-name s x line (standing_of t x) (h.knows x) f target in name_reaches by_box x d.0 d.1
  left_side (Part' x many subs) g f target =
      let sound = part-sound t line s h.knows h.no_index x subs g.1 g.2 f in
      let ops = (yielded (left_of by_box (Part' x many subs)) s n).ops in
      subst (λ b. Reaches w (Part' x many subs) b n ops (assigned.target by_box w (Part' x many subs))) (sym (and-false (not by_box)))
      (subst (Reaches w (Part' x many subs) false n ops) (sym (part-target w x subs)) (part_reaches x subs sound g.1 (Part' x many subs) refl))
  left_side TooDeep g f target = absurd (true≢false (not_broken true line _ f))
  left_side e g f target = absurd g

  pub lefts-mean : (e : Expr) → IsDesignator e → left_faults t false line e ≡ [] → Goal e
  lefts-mean e g f = let none = none_left e f in left_side e g none.0 none.1
