-- A designator with all its ops: the variable, its subscripts, and what they select.
use Rattle.std.proofs.Common.{◌≡◌, refl, sym, ◌∙◌, subst, ℕ, ◌+◌, ◌≤◌, List, Ok, Err, arith}
use mathlib.Core.Former.{Count}
use Rattle.ws_base.specs.declared.name.Name.{Name}
use Rattle.ws_base.specs.Outcomes.{Staged, ◌>>=◌}
use Rattle.ws_space.specs.declared.state.ArrayValue.{ArrayValue}
use Rattle.ws_space.specs.declared.state.VarState.{VarState}
use Rattle.ws_space.specs.declared.state.VarState.TheVariants as state
use Rattle.ws_space.specs.declared.state.Var.{Var}
use Rattle.ws_space.specs.Shapes.{dims}
use Rattle.ws_space.specs.Values.{state_of}
use Rattle.ws_tree.specs.declared.expr.Expr.{Expr}
use Rattle.ws_tree.specs.declared.expr.Expr.TheVariants.{Part'}
use Rattle.ws_tree.specs.Trees.{Subs}
use Rattle.array_meaning.specs.declared.world.World.{World}
use Rattle.array_meaning.specs.declared.term.Pick.{Pick}
use Rattle.array_meaning.specs.Stage1 as source
use Rattle.hlfir_ops.specs.Numbers.{numbers_of}
use Rattle.hlfir_meaning.specs.Environments.{Environment}
use Rattle.hlfir_meaning.specs.Stage1.{stage1}
use Rattle.lower_values.specs.declared.operand.Operand.{Operand}
use Rattle.lower_values.specs.Scopes.{Scope}
use Rattle.lower_values.specs.Lowerings.{Lowering, ◌>>=◌ as ◌then◌}
use Rattle.lower_values.specs.References.{declare_of, boxed, reference, loaded, designated}
use Rattle.lower_values.specs.Values.{part_of, subscripts}
use Rattle.value_laws.specs.Standing.{Kept, Does}
use Rattle.value_laws.proofs.Elementals.{own-small, own-wider}
use Rattle.value_laws.proofs.Walking.{does-then, does-scoped}
use Rattle.part_laws.specs.Parts.{Refers, IsPart, StandsUnnamed}
use Rattle.part_laws.specs.Subscripts.{AreWithin, SubscriptsStand, SelectsLater, DeclaresArray, SubscriptsFit}
use Rattle.part_laws.specs.Laws.{part_selected, DesignatorStands}
use Rattle.part_laws.proofs.Designators.{does-designated}
use Rattle.part_laws.proofs.References.{does-boxed}
use Rattle.part_laws.proofs.Sections.{does-loaded}
use Rattle.part_laws.proofs.Subscripts.{all-from, does-subscripts}

pub does-array_subscripts : (k : Count) (vectors : List ℕ) (base : ℕ) (s : Scope) (n : ℕ) (env : Environment) (w : World) (r : Operand) (v : Var) (a : ArrayValue) → base ≤ n → Refers base base n env r v a →
    (subs : Subs k) → AreWithin subs (dims a.shape) → SubscriptsStand vectors base env s w r 1 n subs →
    Does vectors s n env (subscripts r 1 subs) (source.picks w (dims a.shape) subs) (SelectsLater (dims a.shape))
does-array_subscripts k vectors base s n env w r v a g refers subs within stand =
    does-subscripts vectors base n env env s w g (λ b low. refl) r v a (own-small base base n r.value.number (omega arith) g refers.own) refers.found refers.holds subs 1 (dims a.shape) (all-from (dims a.shape)) within n env (omega arith) (λ b low. refl) stand

module _ (k : Count) (vectors : List ℕ) (base : ℕ) (s : Scope) (n : ℕ) (env : Environment) (w : World) (x : Name) (v : Var) (g : base ≤ n) (declares : DeclaresArray base env (declare_of s.names x) (state_of w.vars x) v)
    (subs : Subs k) (fit : SubscriptsFit vectors base s n env w x subs) where
  does-reference : Does vectors s n env (reference x) (source.allocated (state_of w.vars x)) (λ r a m after. Refers base n m after r v a)
  unfolding reference
  does-reference = does-scoped (stage1 vectors) s n env (λ q. boxed (declare_of q.names x)) (source.allocated (state_of w.vars x)) (λ r a m after. Refers base n m after r v a)
      (does-boxed vectors base n s n env v (declare_of s.names x) (omega arith) declares.below declares.found (state_of w.vars x) declares.holds declares.fits declares.named)

  abbrev r : Operand
  r = (reference x s n).made

  abbrev from : ℕ
  from = n + numbers_of (reference x s n).ops

  -- what is known of the array that is referred to
  record IsHeldArray (o : Operand) (a : ArrayValue) (m : ℕ) (rho : Environment) : Type 0 where
    refers : Refers base n m rho o v a
    held : state_of w.vars x ≡ state.Array a

  held_array : (held : VarState) → (p : Lowering Operand) → state_of w.vars x ≡ held → Does vectors s n env p (source.allocated held) (λ o a m after. Refers base n m after o v a) → Does vectors s n env p (source.allocated held) IsHeldArray
  held_array (state.Array a) p is h = (h.0, h.1, record { refers = h.2; held = is })
  held_array (state.Scalar z) p is h = h
  held_array (state.Unallocated rank) p is h = h

  abbrev Selected : Operand → (ArrayValue × List Pick) → ℕ → Environment → Type 0
  Selected y b m after = IsPart n m after y v b.0 b.1

  selects : (a : ArrayValue) (m : ℕ) (middle : Environment) → m ≡ from → Kept n env middle → IsHeldArray r a m middle →
      Does vectors s m middle (subscripts r 1 subs then designated r) (source.picks w (dims a.shape) subs >>= (λ ps. source.selected a ps >>= (λ qs. Ok (a, qs)))) Selected
  selects a m middle at kept h =
      does-then (stage1 vectors) s m middle (subscripts r 1 subs) (designated r) (source.picks w (dims a.shape) subs) (λ ps. source.selected a ps >>= (λ qs. Ok (a, qs))) (SelectsLater (dims a.shape)) Selected
      (does-subscripts vectors base m env middle s w (omega (arith, g, at)) (λ b low. kept b (omega (arith, low, g))) r v a (own-small base n m r.value.number g (omega (arith, at)) h.refers.own) h.refers.found h.refers.holds
      subs 1 (dims a.shape) (all-from (dims a.shape)) (fit.within a h.held) m middle (omega arith) (λ b low. refl) (subst (λ o. SubscriptsStand vectors base env s w r 1 o subs) (sym at) fit.stand))
      (λ ps o after at2 kept2 later.
      with_array o after (designated r (subscripts r 1 subs s m).made) (source.selected a ps)
      (does-designated vectors base n s o after r v a (omega (arith, at, at2)) (refers_later o after at2 kept2) (subscripts r 1 subs s m).made ps (later after (λ b low. refl))))
    where
      with_array : (o : ℕ) (after : Environment) (p : Lowering Operand) (q : Staged (List Pick)) → Does vectors s o after p q (λ y qs i last. IsPart n i last y v a qs) → Does vectors s o after p (q >>= (λ qs. Ok (a, qs))) Selected
      with_array o after p (Ok qs) d = d
      with_array o after p (Err t) d = d

      refers_later : (o : ℕ) (after : Environment) → o ≡ m + numbers_of (subscripts r 1 subs s m).ops → Kept m middle after → Refers base n o after r v a
      refers_later o after at2 kept2 = record {
        found = kept2 r.value.number (own-small base n m r.value.number g (omega (arith, at)) h.refers.own) ∙ h.refers.found;
        holds = h.refers.holds;
        own = own-wider base n n m o r.value.number (omega arith) (omega (arith, at2)) h.refers.own;
        fits = h.refers.fits;
      }

  pub does-part_of : Does vectors s n env (part_of x (λ o. subscripts o 1 subs)) (part_selected w x subs) Selected
  unfolding part_of
  does-part_of = does-then (stage1 vectors) s n env (reference x) (λ o. subscripts o 1 subs then designated o) (source.allocated (state_of w.vars x))
      (λ a. source.picks w (dims a.shape) subs >>= (λ ps. source.selected a ps >>= (λ qs. Ok (a, qs)))) IsHeldArray Selected
      (held_array (state_of w.vars x) (reference x) refl does-reference) selects

  same_part : (held : Staged ArrayValue) → ((held >>= (λ a. source.picks w (dims a.shape) subs >>= (λ ps. source.selected a ps >>= (λ qs. let b : Staged (ArrayValue × List Pick) = Ok (a, qs) in b)))) >>= (λ b. source.section_or_element (source.picked b.1) b.0 b.1))
      ≡ (held >>= (λ a. source.picks w (dims a.shape) subs >>= (λ ps. source.designator a ps)))
  same_part (Ok a) = by_picks (source.picks w (dims a.shape) subs)
    where
      by_selected : (q : Staged (List Pick)) → ((q >>= (λ qs. let b : Staged (ArrayValue × List Pick) = Ok (a, qs) in b)) >>= (λ b. source.section_or_element (source.picked b.1) b.0 b.1)) ≡ (q >>= (λ qs. source.section_or_element (source.picked qs) a qs))
      by_selected (Ok qs) = refl
      by_selected (Err t) = refl

      by_picks : (q : Staged (List Pick)) → ((q >>= (λ ps. source.selected a ps >>= (λ qs. let b : Staged (ArrayValue × List Pick) = Ok (a, qs) in b))) >>= (λ b. source.section_or_element (source.picked b.1) b.0 b.1)) ≡ (q >>= (λ ps. source.designator a ps))
      by_picks (Ok ps) = by_selected (source.selected a ps)
      by_picks (Err t) = refl
  same_part (Err t) = refl

  pub does-part_loaded : Does vectors s n env (part_of x (λ o. subscripts o 1 subs) then loaded) (source.allocated (state_of w.vars x) >>= (λ a. source.picks w (dims a.shape) subs >>= (λ ps. source.designator a ps))) (λ y u m after. StandsUnnamed base n m after y u)
  does-part_loaded =
      subst (λ q. Does vectors s n env (part_of x (λ o. subscripts o 1 subs) then loaded) q (λ y u m after. StandsUnnamed base n m after y u)) (same_part (source.allocated (state_of w.vars x)))
      (does-then (stage1 vectors) s n env (part_of x (λ o. subscripts o 1 subs)) loaded (part_selected w x subs) (λ b. source.section_or_element (source.picked b.1) b.0 b.1) Selected (λ y u m after. StandsUnnamed base n m after y u)
      does-part_of
      (λ b m middle at kept is. does-loaded vectors base n s m middle (part_of x (λ o. subscripts o 1 subs) s n).made v b.0 b.1 (omega (arith, at)) is))

pub does-part : (vectors : List ℕ) (base : ℕ) (s : Scope) (n : ℕ) (env : Environment) (w : World) → base ≤ n → (e : Expr) → DesignatorStands vectors base s n env w e
does-part vectors base s n env w g (Part' x h subs) = λ v declares fit. does-part_loaded _ vectors base s n env w x v g declares subs fit
does-part vectors base s n env w g e = tt
