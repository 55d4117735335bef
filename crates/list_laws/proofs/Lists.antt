-- Lists of phases one after another.
use Rattle.std.proofs.Common.{◌≡◌, ◌⊎◌, inl, inr, ℕ, zero, suc, ◌<◌, Bool, true, false, List, [], ◌∷◌, ◌++◌, length, sym, refl, ap, ◌∙◌, subst, arith, Option, Some, None}
use Rattle.std.specs.Prelude.{nat_lt, if◌then◌else◌}
use Rattle.std.proofs.lemmas.Bool.Decides.{nat_tests}
use Rattle.phase_ops.specs.declared.phase.Phase.{Phase}
use Rattle.phase_ops.specs.declared.phase.Phase.TheVariants.{Set, Loop, Part, Join}
use Rattle.phase_ops.specs.Phases.{Cells, phase_effects, after_phase, key, none_yet, Outcome, Finished, Failed, later, result}
use Rattle.phase_ops.specs.Free.{Agrees, JoinsAgree, Free, FreeFrom}
use Rattle.loop_laws.proofs.Keyed.{least_bound}
use Rattle.list_laws.specs.Lists.{Good, Leads, LeadsOne, either_fails, joined_fails, NeverAt}
use Rattle.list_laws.specs.Laws.{behind, continued}

-- a phase that may stand first may stand behind any
agrees_any : (p : Phase) (before : Option Phase) → Agrees p None → Agrees p before
agrees_any (Set l b acts) before a = a
agrees_any (Loop l b count acts) before a = a
agrees_any (Part l count act k t f) before a = a
agrees_any (Join l count k t f s) before a = elim a [ ]

pub joins_any : (before : Option Phase) (ps : List Phase) → JoinsAgree None ps → JoinsAgree before ps
joins_any before [] j = tt
joins_any before (p ∷ ps) j = (agrees_any p before j.0, j.1)

pub joins_join : (before : Option Phase) (ps qs : List Phase) → JoinsAgree before ps → JoinsAgree None qs → JoinsAgree before (ps ++ qs)
joins_join before [] qs j k = joins_any before qs k
joins_join before (p ∷ ps) qs j k = (j.0, joins_join (Some p) ps qs j.1 k)

module _ (chunk : ℕ) where
  pub result_more : (p : Phase) (ps : List Phase) (m : Cells) → key p m chunk ≡ none_yet → result (p ∷ ps) m chunk ≡ later (result ps (after_phase p m chunk) chunk)
  result_more p ps m e = ap (λ (b : Bool). if b then Failed 0 (key p m chunk) else later (result ps (after_phase p m chunk) chunk)) (let q : nat_lt (key p m chunk) none_yet ≡ false = grind (arith, nat_tests) in q)

  pub result_fails : (p : Phase) (ps : List Phase) (m : Cells) → key p m chunk < none_yet → result (p ∷ ps) m chunk ≡ Failed 0 (key p m chunk)
  result_fails p ps m e = ap (λ (b : Bool). if b then Failed 0 (key p m chunk) else later (result ps (after_phase p m chunk) chunk)) (let q : nat_lt (key p m chunk) none_yet ≡ true = grind (arith, nat_tests) in q)

  -- the first phase, and the others
  module _ (pre mid post : Cells → Type 0) (here : ℕ → Type 0) (there : ℕ → ℕ → Type 0) where
    good_later : (r : Outcome) → Good post there r → Good post (either_fails here there) (later r)
    good_later (Finished m) g = g
    good_later (Failed t k) g = g

    pub one_more : (p : Phase) (ps : List Phase) → LeadsOne chunk p pre mid here → Leads chunk ps mid post there → Leads chunk (p ∷ ps) pre post (either_fails here there)
    one_more p ps one more = λ m h. let x = one m h in pick m x.0 x.1
      where
        pick : (m : Cells) → Free p m → ((key p m chunk ≡ none_yet) × mid (after_phase p m chunk)) ⊎ ((key p m chunk < none_yet) × here (key p m chunk)) → FreeFrom chunk (p ∷ ps) m × Good post (either_fails here there) (result (p ∷ ps) m chunk)
        pick m f (inl g) = let r = more (after_phase p m chunk) g.1 in ((f, λ e. r.0), subst (Good post (either_fails here there)) (sym (result_more p ps m g.0)) (good_later (result ps (after_phase p m chunk) chunk) r.1))
        pick m f (inr g) = let k = g.0 in ((f, λ e. absurd (omega (arith, k, e))), subst (Good post (either_fails here there)) (sym (result_fails p ps m g.0)) g.1)

  -- the list law: two lists, one after the other. A fault of the second stands behind all phases of the first.
  module _ (mid post : Cells → Type 0) (second : ℕ → ℕ → Type 0) (qs : List Phase) (next : Leads chunk qs mid post second) where
    further : (n : ℕ) (first : ℕ → ℕ → Type 0) (r : Outcome) → Good post (joined_fails n (λ t k. first (suc t) k) second) r → Good post (joined_fails (suc n) first second) (later r)
    further n first (Finished m) g = g
    further n first (Failed t k) (inl g) = inl g
    further n first (Failed t k) (inr g) = inr (g.0, (let e = g.1 in omega (arith, e)), g.2)

    goes_on : (ps : List Phase) (first : ℕ → ℕ → Type 0) (m : Cells) → FreeFrom chunk ps m → Good mid first (result ps m chunk) → FreeFrom chunk (ps ++ qs) m × Good post (joined_fails (length ps) first second) (result (ps ++ qs) m chunk)
    goes_on [] first m f g = let r = next m g in (r.0, weaken (result qs m chunk) r.1)
      where
        weaken : (r : Outcome) → Good post second r → Good post (joined_fails 0 first second) r
        weaken (Finished m) h = h
        weaken (Failed t k) h = inr (t, omega arith, h)
    goes_on (p ∷ ps) first m f g = pick (λ h k. goes_on ps (λ t k. first (suc t) k) (after_phase p m chunk) h k) (nat_lt (key p m chunk) none_yet) refl
      where
        lower : (r : Outcome) → Good mid first (later r) → Good mid (λ t k. first (suc t) k) r
        lower (Finished m) h = h
        lower (Failed t k) h = h

        pick : (FreeFrom chunk ps (after_phase p m chunk) → Good mid (λ t k. first (suc t) k) (result ps (after_phase p m chunk) chunk) → FreeFrom chunk (ps ++ qs) (after_phase p m chunk) × Good post (joined_fails (length ps) (λ t k. first (suc t) k) second) (result (ps ++ qs) (after_phase p m chunk) chunk))
            → (b : Bool) → nat_lt (key p m chunk) none_yet ≡ b → FreeFrom chunk ((p ∷ ps) ++ qs) m × Good post (joined_fails (length (p ∷ ps)) first second) (result ((p ∷ ps) ++ qs) m chunk)
        pick rec true e = (
          (f.0, λ h. absurd (let z : zero ≡ suc zero = grind (arith, nat_tests) in omega (arith, z))),
          subst (Good post (joined_fails (length (p ∷ ps)) first second)) (sym (fails_at (ps ++ qs))) (inl (subst (Good mid first) (fails_at ps) g)),
        )
          where
            fails_at : (rs : List Phase) → result (p ∷ rs) m chunk ≡ Failed 0 (key p m chunk)
            fails_at rs = ap (λ (b : Bool). if b then Failed 0 (key p m chunk) else later (result rs (after_phase p m chunk) chunk)) e
        pick rec false e =
            let there = lower (result ps (after_phase p m chunk) chunk) (subst (Good mid first) (goes_at ps) g) in
            let none : key p m chunk ≡ none_yet = (let h = least_bound (phase_effects p m chunk) in grind (arith, nat_tests)) in
            let r = rec (f.1 none) there in (
              (f.0, λ h. r.0),
              subst (Good post (joined_fails (length (p ∷ ps)) first second)) (sym (goes_at (ps ++ qs))) (further (length ps) first (result (ps ++ qs) (after_phase p m chunk) chunk) r.1),
            )
          where
            goes_at : (rs : List Phase) → result (p ∷ rs) m chunk ≡ later (result rs (after_phase p m chunk) chunk)
            goes_at rs = ap (λ (b : Bool). if b then Failed 0 (key p m chunk) else later (result rs (after_phase p m chunk) chunk)) e

    pub list_law : (ps : List Phase) (pre : Cells → Type 0) (first : ℕ → ℕ → Type 0) → Leads chunk ps pre mid first → Leads chunk (ps ++ qs) pre post (joined_fails (length ps) first second)
    list_law ps pre first lead = λ m h. let x = lead m h in goes_on ps first m x.0 x.1

-- a list of no phase
pub nothing_more : (chunk : ℕ) (pre : Cells → Type 0) (fails : ℕ → ℕ → Type 0) → Leads chunk [] pre pre fails
nothing_more chunk pre fails = λ m h. (tt, h)

-- an outcome that cannot fail is a memory
pub finished : (post : Cells → Type 0) (fails : ℕ → ℕ → Type 0) → ((t k : ℕ) → fails t k → ⊥) → (r : Outcome) → Good post fails r → (m : Cells) × (r ≡ Finished m) × post m
finished post fails never (Finished m) g = (m, refl, g)
finished post fails never (Failed t k) g = absurd (never t k g)

-- one that can fail in the first phase alone, and then with this key
pub only_first : (r : Outcome) (k : ℕ) → Good (λ x. ⊥) (either_fails (λ j. j ≡ k) NeverAt) r → r ≡ Failed 0 k
only_first (Finished x) k h = absurd h
only_first (Failed zero j) k h = ap (λ (z : ℕ). Failed 0 z) h
only_first (Failed (suc s) j) k h = absurd h

-- ---- from one memory

module _ (ps qs : List Phase) (m : Cells) (chunk : ℕ) (free : FreeFrom chunk ps m) (next : (x : Cells) → result ps m chunk ≡ Finished x → FreeFrom chunk qs x) where
  abbrev Between : Cells → Type 0
  Between x = result ps m chunk ≡ Finished x

  abbrev Stops : ℕ → ℕ → Type 0
  Stops t k = result ps m chunk ≡ Failed t k

  abbrev After : Cells → Type 0
  After y = (x : Cells) × Between x × (result qs x chunk ≡ Finished y)

  abbrev StopsAfter : ℕ → ℕ → Type 0
  StopsAfter t k = (x : Cells) × Between x × (result qs x chunk ≡ Failed t k)

  first_leads : Leads chunk ps (λ x. x ≡ m) Between Stops
  first_leads = λ x e. (subst (FreeFrom chunk ps) (sym e) free, subst (λ (y : Cells). Good Between Stops (result ps y chunk)) (sym e) (by (result ps m chunk) refl))
    where
      by : (r : Outcome) → result ps m chunk ≡ r → Good Between Stops r
      by (Finished x) e = e
      by (Failed t k) e = e

  second_leads : Leads chunk qs Between After StopsAfter
  second_leads = λ x e. (next x e, by x e (result qs x chunk) refl)
    where
      by : (x : Cells) → Between x → (r : Outcome) → result qs x chunk ≡ r → Good After StopsAfter r
      by x e (Finished y) g = (x, e, g)
      by x e (Failed t k) g = (x, e, g)

  both : FreeFrom chunk (ps ++ qs) m × Good After (joined_fails (length ps) Stops StopsAfter) (result (ps ++ qs) m chunk)
  both = list_law chunk Between After StopsAfter qs second_leads ps (λ x. x ≡ m) Stops first_leads m refl

  pub both_free : FreeFrom chunk (ps ++ qs) m
  both_free = both.0

  pub both_end : result (ps ++ qs) m chunk ≡ continued (length ps) (λ x. result qs x chunk) (result ps m chunk)
  both_end = by (result (ps ++ qs) m chunk) both.1
    where
      by : (r : Outcome) → Good After (joined_fails (length ps) Stops StopsAfter) r → r ≡ continued (length ps) (λ x. result qs x chunk) (result ps m chunk)
      by (Finished y) g = sym (ap (continued (length ps) (λ x. result qs x chunk)) g.1 ∙ ap (behind (length ps)) g.2)
      by (Failed t k) (inl e) = sym (ap (continued (length ps) (λ x. result qs x chunk)) e)
      by (Failed t k) (inr g) = ap (λ (u : ℕ). Failed u k) g.1 ∙ sym (ap (continued (length ps) (λ x. result qs x chunk)) g.2.1 ∙ ap (behind (length ps)) g.2.2)
