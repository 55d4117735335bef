-- The first row whose target an earlier row has stands where the list of targets first repeats one.
use Rattle.std.proofs.Common.{◌≡◌, ◌⊎◌, inl, inr, ℕ, zero, suc, ◌+◌, ◌<◌, ◌≤◌, Bool, true, false, List, [], ◌∷◌, sym, refl, ap, ◌∙◌, arith, Option, Some, None}
use Rattle.std.specs.Prelude.{if◌then◌else◌, slice_index_or, ◌==◌, ◌||◌}
use Rattle.std.proofs.lemmas.Bool.Decides.{nat_tests}
use Rattle.ws_space.specs.Values.{is_among, repeat_after}
use Rattle.phase_ops.specs.Free.{In}
use Rattle.loop_laws.specs.Moves.{Row, iterations_of, targets_of}
use Rattle.loop_laws.specs.Laws.{Ascend}

among_here : (t u : ℕ) (us : List ℕ) → t ≡ u → is_among t (u ∷ us) ≡ true
among_here t u us e = ap (λ (b : Bool). b || is_among t us) (let g : (t == u) ≡ true = grind (arith, nat_tests) in g)

among_more : (t u : ℕ) (us : List ℕ) → is_among t us ≡ true → is_among t (u ∷ us) ≡ true
among_more t u us h = ap (λ (b : Bool). (t == u) || b) h ∙ or_true (t == u)
  where
    or_true : (b : Bool) → (b || true) ≡ true
    or_true true = refl
    or_true false = refl

among_cases : (t u : ℕ) (us : List ℕ) → is_among t (u ∷ us) ≡ true → (t ≡ u) ⊎ (is_among t us ≡ true)
among_cases t u us h = cases (t == u) refl h
  where
    cases : (b : Bool) → (t == u) ≡ b → (b || is_among t us) ≡ true → (t ≡ u) ⊎ (is_among t us ≡ true)
    cases true e h = inl (let g : t ≡ u = grind (arith, nat_tests) in g)
    cases false e h = inr h

module _ (V : Type 0) (target : ℕ → List V → ℕ) where
  abbrev pub tg : Row V → ℕ
  tg r = target r.0 r.1

  -- no earlier row, and none that was seen, has the row's target
  pub record New (seen : List ℕ) (rs : List (Row V)) (q : Row V) : Type 0 where
    pub unseen : is_among (tg q) seen ≡ true → ⊥
    pub alone : (r : Row V) → In r rs → r.0 < q.0 → tg r ≡ tg q → ⊥

  abbrev pub Old : List ℕ → List (Row V) → Row V → Type 0
  Old seen rs q = (is_among (tg q) seen ≡ true) ⊎ ((r : Row V) × In r rs × (r.0 < q.0) × (tg r ≡ tg q))

  pub record Repeating (seen : List ℕ) (rs : List (Row V)) (k m : ℕ) : Type 0 where
    pub row : Row V
    pub row_in : In row rs
    pub index : ℕ
    pub at : m ≡ k + index
    pub iteration : row.0 ≡ slice_index_or (iterations_of rs) index 0
    pub old : Old seen rs row
    pub first : (q : Row V) → In q rs → q.0 < row.0 → New seen rs q

  abbrev pub Repeated : List ℕ → List (Row V) → ℕ → Option ℕ → Type 0
  Repeated seen rs k None = (q : Row V) → In q rs → New seen rs q
  Repeated seen rs k (Some m) = Repeating seen rs k m

  module _ (seen : List ℕ) (x : Row V) (xs : List (Row V)) (k : ℕ) (asc : Ascend (x ∷ xs)) where
    low : (r : Row V) → In r (x ∷ xs) → x.0 ≤ r.0
    low r (inl e) = let z : r.0 ≡ x.0 = ap (λ (q : Row V). q.0) e in omega (arith, z)
    low r (inr h) = let z = asc.0 r h in omega (arith, z)

    new_first : is_among (tg x) seen ≡ false → (q : Row V) → q ≡ x → New seen (x ∷ xs) q
    new_first e q s = record {
      unseen = λ h. (let f : is_among (tg x) seen ≡ true = ap (λ (r : Row V). is_among (tg r) seen) (sym s) ∙ h in let z : zero ≡ suc zero = cc in omega (arith, z));
      alone = λ r h l f. (let a = low r h in let z : q.0 ≡ x.0 = ap (λ (r : Row V). r.0) s in omega (arith, a, l, z));
    }

    new_later : (q : Row V) → New (tg x ∷ seen) xs q → New seen (x ∷ xs) q
    new_later q w = record { unseen = λ h. w.unseen (among_more (tg q) (tg x) seen h); alone = λ r h l f. one r h l f }
      where
        one : (r : Row V) → In r (x ∷ xs) → r.0 < q.0 → tg r ≡ tg q → ⊥
        one r (inl e) l f = w.unseen (among_here (tg q) (tg x) seen (sym f ∙ ap tg e))
        one r (inr h) l f = w.alone r h l f

    one_row : (b : Bool) → is_among (tg x) seen ≡ b → Repeated (tg x ∷ seen) xs (suc k) (repeat_after (tg x ∷ seen) (suc k) (targets_of target xs)) → Repeated seen (x ∷ xs) k (if b then Some k else repeat_after (tg x ∷ seen) (suc k) (targets_of target xs))
    one_row true e h = record {
      row = x;
      row_in = inl refl;
      index = 0;
      at = omega arith;
      iteration = refl;
      old = inl e;
      first = λ q g l. (let a = low q g in absurd (omega (arith, a, l)));
    }
    one_row false e h = rest (repeat_after (tg x ∷ seen) (suc k) (targets_of target xs)) h
      where
        rest : (o : Option ℕ) → Repeated (tg x ∷ seen) xs (suc k) o → Repeated seen (x ∷ xs) k o
        rest None w = λ q g. pick q g
          where
            pick : (q : Row V) → In q (x ∷ xs) → New seen (x ∷ xs) q
            pick q (inl s) = new_first e q s
            pick q (inr g) = new_later q (w q g)
        rest (Some m) w = record {
          row = w.row;
          row_in = inr w.row_in;
          index = suc w.index;
          at = (let a = w.at in omega (arith, a));
          iteration = w.iteration;
          old = older w.old;
          first = λ q g l. pick q g l;
        }
          where
            older : Old (tg x ∷ seen) xs w.row → Old seen (x ∷ xs) w.row
            older (inl h) = seen_or (among_cases (tg w.row) (tg x) seen h)
              where
                seen_or : (tg w.row ≡ tg x) ⊎ (is_among (tg w.row) seen ≡ true) → Old seen (x ∷ xs) w.row
                seen_or (inl s) = inr (x, inl refl, asc.0 w.row w.row_in, sym s)
                seen_or (inr s) = inl s
            older (inr r) = inr (r.0, inr r.1, r.2, r.3)

            pick : (q : Row V) → In q (x ∷ xs) → q.0 < w.row.0 → New seen (x ∷ xs) q
            pick q (inl s) l = new_first e q s
            pick q (inr g) l = new_later q (w.first q g l)

  pub repeated : (seen : List ℕ) (rs : List (Row V)) (k : ℕ) → Ascend rs → Repeated seen rs k (repeat_after seen k (targets_of target rs))
  repeated seen [] k asc = λ q h. elim h [ ]
  repeated seen (x ∷ xs) k asc = one_row seen x xs k asc (is_among (tg x) seen) refl (repeated (tg x ∷ seen) xs (suc k) asc.1)

  pub not_among : (t : ℕ) → is_among t [] ≡ true → ⊥
  not_among t e = absurd (let z : zero ≡ suc zero = cc in omega (arith, z))
