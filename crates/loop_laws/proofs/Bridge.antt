-- Whole maps fail where the least key over the places stands.
use Rattle.std.proofs.Common.{◌≡◌, ◌⊎◌, inl, inr, ℕ, zero, suc, ◌<◌, ◌≤◌, Bool, true, false, List, [], ◌∷◌, sym, refl, ap, ◌∙◌, subst, arith, Option, Some, None, Result, Ok, Err}
use Rattle.std.specs.Prelude.{if◌then◌else◌, slice_index_or}
use Rattle.ws_base.specs.declared.fault.FaultName.{FaultName}
use Rattle.ws_base.specs.declared.fault.Trouble.{Trouble}
use Rattle.ws_base.specs.Outcomes.{Staged, each, joined}
use Rattle.phase_ops.specs.Free.{In}
use Rattle.loop_laws.specs.Moves.{Row, Move, Makes, Keeps, Failure, pushed, kept, further, iterations_of, and_then, whole, Ended, deeper, made, moved}
use Rattle.loop_laws.specs.Laws.{Ascend, NotAfter, Bridged}

module _ (V : Type 0) where
  -- ---- one move deeper

  pub deeper_fails : (x : Ended V) (o : ℕ) (n : FaultName) → deeper x ≡ Err (o, n) → (p : ℕ) × (o ≡ suc p) × (x ≡ Err (p, n))
  deeper_fails (Ok s) o n e = absurd (let z : zero ≡ suc zero = cc in omega (arith, z))
  deeper_fails (Err q) o n e =
      let p : (suc q.0, q.1) ≡ (o, n) = (cc) in
      let y : q.1 ≡ n = ap (λ (z : ℕ × FaultName). z.1) p in
      (q.0, sym (ap (λ (z : ℕ × FaultName). z.0) p), ap (λ (m : FaultName). let x : Ended V = Err (q.0, m) in x) y)

  pub deeper_done : (x : Ended V) (s : Option (List V)) → deeper x ≡ Ok s → x ≡ Ok s
  deeper_done (Ok t) s e = cc
  deeper_done (Err q) s e = cc

  -- a place goes on behind a move, or is let go
  record Goes (m : Move V) (more : List (Move V)) (r t : Row V) : Type 0 where
    pub same : r.0 ≡ t.0
    pub on : moved (m ∷ more) r.1 ≡ deeper (moved more t.1)

  lift : (m : Move V) (more : List (Move V)) (rs ts : List (Row V))
      → ((r : Row V) → In r rs → (moved (m ∷ more) r.1 ≡ Ok None) ⊎ ((t : Row V) × In t ts × Goes m more r t))
      → ((t : Row V) → In t ts → (r : Row V) × In r rs × Goes m more r t)
      → (q : Result (List (Row V)) Failure) → Bridged V more ts q → Bridged V (m ∷ more) rs (further q)
  lift m more rs ts down up (Ok us) b = record {
    none_fails = λ r h o n e. no r o n e (down r h);
    there = λ r h s e. onward r s e (down r h);
    back = λ t h. let x = b.back t h in let y = up x.0 x.1 in (y.0, y.1, y.2.same ∙ x.2, y.2.on ∙ ap deeper x.3);
  }
    where
      no : (r : Row V) (o : ℕ) (n : FaultName) → moved (m ∷ more) r.1 ≡ Err (o, n) → (moved (m ∷ more) r.1 ≡ Ok None) ⊎ ((t : Row V) × In t ts × Goes m more r t) → ⊥
      no r o n e (inl g) = absurd (let z : zero ≡ suc zero = cc in omega (arith, z))
      no r o n e (inr g) = let d = deeper_fails (moved more g.0.1) o n (sym g.2.on ∙ e) in b.none_fails g.0 g.1 d.0 n d.2

      onward : (r : Row V) (s : List V) → moved (m ∷ more) r.1 ≡ Ok (Some s) → (moved (m ∷ more) r.1 ≡ Ok None) ⊎ ((t : Row V) × In t ts × Goes m more r t) → In (r.0, s) us
      onward r s e (inl g) = absurd (let z : zero ≡ suc zero = cc in omega (arith, z))
      onward r s e (inr g) = subst (λ (i : ℕ). In (i, s) us) (sym g.2.same) (b.there g.0 g.1 s (deeper_done (moved more g.0.1) (Some s) (sym g.2.on ∙ e)))
  lift m more rs ts down up (Err k) b = record {
    row = source.0;
    row_in = source.1;
    iteration = source.2.same ∙ b.iteration;
    fails = source.2.on ∙ ap deeper b.fails;
    first = λ r h o n e. later_one r o n e (down r h);
  }
    where
      source : (r : Row V) × In r rs × Goes m more r b.row
      source = up b.row b.row_in

      later_one : (r : Row V) (o : ℕ) (n : FaultName) → moved (m ∷ more) r.1 ≡ Err (o, n) → (moved (m ∷ more) r.1 ≡ Ok None) ⊎ ((t : Row V) × In t ts × Goes m more r t) → NotAfter (suc k.move) k.iteration o r.0
      later_one r o n e (inl g) = absurd (let z : zero ≡ suc zero = cc in omega (arith, z))
      later_one r o n e (inr g) = let d = deeper_fails (moved more g.0.1) o n (sym g.2.on ∙ e) in step d.1 g.2.same (b.first g.0 g.1 d.0 n d.2)
        where
          step : {p i : ℕ} → o ≡ suc p → r.0 ≡ i → NotAfter k.move k.iteration p i → NotAfter (suc k.move) k.iteration o r.0
          step e f (inl l) = inl (omega (arith, e, l))
          step e f (inr l) = let a = l.0 in let c = l.1 in inr (omega (arith, e, a), omega (arith, f, c))

  -- ---- one operation at all places

  module _ (f : List V → Result V FaultName) where
    -- the first place at which it fails
    pub record FirstOf (rs : List (Row V)) (t : Trouble) : Type 0 where
      pub row : Row V
      pub row_in : In row rs
      pub iteration : row.0 ≡ slice_index_or (iterations_of rs) t.element 0
      pub fails : f row.1 ≡ Err t.name
      pub first : (q : Row V) → In q rs → (n : FaultName) → f q.1 ≡ Err n → row.0 ≤ q.0

    pub record AllMade (rs : List (Row V)) (vs : List V) : Type 0 where
      pub down : (r : Row V) → In r rs → (v : V) × (f r.1 ≡ Ok v) × In (r.0, v ∷ r.1) (pushed vs rs)
      pub up : (t : Row V) → In t (pushed vs rs) → (r : Row V) × (v : V) × In r rs × (f r.1 ≡ Ok v) × (t ≡ (r.0, v ∷ r.1))
      pub ascend : Ascend (pushed vs rs)

    abbrev pub Each : List (Row V) → Staged (List V) → Type 0
    Each rs (Ok vs) = AllMade rs vs
    Each rs (Err t) = FirstOf rs t

    one_row : (x : Row V) (xs : List (Row V)) → Ascend (x ∷ xs) → (y : Result V FaultName) → f x.1 ≡ y → (q : Staged (List V)) → Each xs q → Each (x ∷ xs) (joined y q)
    one_row x xs asc (Err n) e q h = record { row = x; row_in = inl refl; iteration = refl; fails = e; first = λ p g n' e'. low p g }
      where
        low : (p : Row V) → In p (x ∷ xs) → x.0 ≤ p.0
        low p (inl s) = let z : p.0 ≡ x.0 = ap (λ (r : Row V). r.0) s in omega (arith, z)
        low p (inr g) = let z = asc.0 p g in omega (arith, z)
    one_row x xs asc (Ok v) e (Err t) h = record { row = h.row; row_in = inr h.row_in; iteration = h.iteration; fails = h.fails; first = λ p g n' e'. low p g n' e' }
      where
        low : (p : Row V) → In p (x ∷ xs) → (n : FaultName) → f p.1 ≡ Err n → h.row.0 ≤ p.0
        low p (inl s) n e' = absurd (let a : f p.1 ≡ f x.1 = ap (λ (r : Row V). f r.1) s in let z : zero ≡ suc zero = cc in omega (arith, z))
        low p (inr g) n e' = h.first p g n e'
    one_row x xs asc (Ok v) e (Ok vs) h = record {
      down = λ r g. down r g;
      up = λ t g. up t g;
      ascend = (λ q g. let u = h.up q g in let z = asc.0 u.0 u.2 in let w : q.0 ≡ u.0.0 = ap (λ (r : Row V). r.0) u.4 in omega (arith, z, w), h.ascend);
    }
      where
        down : (r : Row V) → In r (x ∷ xs) → (v' : V) × (f r.1 ≡ Ok v') × In (r.0, v' ∷ r.1) (pushed (v ∷ vs) (x ∷ xs))
        down r (inl s) = (v, ap (λ (p : Row V). f p.1) s ∙ e, inl (ap (λ (p : Row V). let z : Row V = (p.0, v ∷ p.1) in z) s))
        down r (inr g) = let d = h.down r g in (d.0, d.1, inr d.2)

        up : (t : Row V) → In t (pushed (v ∷ vs) (x ∷ xs)) → (r : Row V) × (v' : V) × In r (x ∷ xs) × (f r.1 ≡ Ok v') × (t ≡ (r.0, v' ∷ r.1))
        up t (inl s) = (x, v, inl refl, e, s)
        up t (inr g) = let u = h.up t g in (u.0, u.1, inr u.2, u.3, u.4)

    pub each_is : (rs : List (Row V)) → Ascend rs → Each rs (each (λ r. f r.1) rs)
    each_is [] asc = record { down = λ r h. elim h [ ]; up = λ t h. elim h [ ]; ascend = tt }
    each_is (x ∷ xs) asc = one_row x xs asc (f x.1) refl (each (λ r. f r.1) xs) (each_is xs asc.1)

  -- ---- one test at all places

  module _ (t : List V → Bool) where
    pub record Tested (rs : List (Row V)) : Type 0 where
      pub down : (r : Row V) → In r rs → (t r.1 ≡ false) ⊎ ((t r.1 ≡ true) × In r (kept t rs))
      pub up : (r : Row V) → In r (kept t rs) → In r rs × (t r.1 ≡ true)
      pub ascend : Ascend (kept t rs)

    one_test : (x : Row V) (xs : List (Row V)) → Ascend (x ∷ xs) → Tested xs → (b : Bool) → t x.1 ≡ b → Tested (x ∷ xs)
    one_test x xs asc h true e = record { down = λ r g. down r g; up = λ r g. up r (subst (λ (l : List (Row V)). In r l) is g); ascend = subst Ascend (sym is) (λ q g. asc.0 q (h.up q g).0, h.ascend) }
      where
        is : kept t (x ∷ xs) ≡ x ∷ kept t xs
        is = ap (λ (b : Bool). if b then x ∷ kept t xs else kept t xs) e

        down : (r : Row V) → In r (x ∷ xs) → (t r.1 ≡ false) ⊎ ((t r.1 ≡ true) × In r (kept t (x ∷ xs)))
        down r (inl s) = inr (ap (λ (p : Row V). t p.1) s ∙ e, subst (λ (l : List (Row V)). In r l) (sym is) (inl s))
        down r (inr g) = more (h.down r g)
          where
            more : (t r.1 ≡ false) ⊎ ((t r.1 ≡ true) × In r (kept t xs)) → (t r.1 ≡ false) ⊎ ((t r.1 ≡ true) × In r (kept t (x ∷ xs)))
            more (inl q) = inl q
            more (inr q) = inr (q.0, subst (λ (l : List (Row V)). In r l) (sym is) (inr q.1))

        up : (r : Row V) → In r (x ∷ kept t xs) → In r (x ∷ xs) × (t r.1 ≡ true)
        up r (inl s) = (inl s, ap (λ (p : Row V). t p.1) s ∙ e)
        up r (inr g) = let u = h.up r g in (inr u.0, u.1)
    one_test x xs asc h false e = record { down = λ r g. down r g; up = λ r g. up r (subst (λ (l : List (Row V)). In r l) is g); ascend = subst Ascend (sym is) h.ascend }
      where
        is : kept t (x ∷ xs) ≡ kept t xs
        is = ap (λ (b : Bool). if b then x ∷ kept t xs else kept t xs) e

        down : (r : Row V) → In r (x ∷ xs) → (t r.1 ≡ false) ⊎ ((t r.1 ≡ true) × In r (kept t (x ∷ xs)))
        down r (inl s) = inl (ap (λ (p : Row V). t p.1) s ∙ e)
        down r (inr g) = more (h.down r g)
          where
            more : (t r.1 ≡ false) ⊎ ((t r.1 ≡ true) × In r (kept t xs)) → (t r.1 ≡ false) ⊎ ((t r.1 ≡ true) × In r (kept t (x ∷ xs)))
            more (inl q) = inl q
            more (inr q) = inr (q.0, subst (λ (l : List (Row V)). In r l) (sym is) q.1)

        up : (r : Row V) → In r (kept t xs) → In r (x ∷ xs) × (t r.1 ≡ true)
        up r g = let u = h.up r g in (inr u.0, u.1)

    pub tested : (rs : List (Row V)) → Ascend rs → Tested rs
    tested [] asc = record { down = λ r h. elim h [ ]; up = λ r h. elim h [ ]; ascend = tt }
    tested (x ∷ xs) asc = one_test x xs asc (tested xs asc.1) (t x.1) refl

  -- ---- the law

  fails_here : (f : List V → Result V FaultName) (more : List (Move V)) (s : List V) (o : ℕ) (n : FaultName) → moved (Makes f ∷ more) s ≡ Err (o, n) → (y : Result V FaultName) → f s ≡ y → ((0 < o) ⊎ ((o ≡ 0) × (f s ≡ Err n)))
  fails_here f more s o n e (Err n') h =
      let g : moved (Makes f ∷ more) s ≡ Err (0, n') = ap (made (λ t. moved more t) s) h in
      let p : (o, n) ≡ (zero, n') = (cc) in
      inr (ap (λ (z : ℕ × FaultName). z.0) p, h ∙ ap (λ (m : FaultName). let x : Result V FaultName = Err m in x) (sym (ap (λ (z : ℕ × FaultName). z.1) p)))
  fails_here f more s o n e (Ok v) h = let d = deeper_fails (moved more (v ∷ s)) o n (sym (ap (made (λ t. moved more t) s) h) ∙ e) in inl (let z = d.1 in omega (arith, z))

  pub bridged : (moves : List (Move V)) (rs : List (Row V)) → Ascend rs → Bridged V moves rs (whole moves rs)
  bridged [] rs asc = record {
    none_fails = λ r h o n e. absurd (let z : zero ≡ suc zero = cc in omega (arith, z));
    there = λ r h s e. let q : r.1 ≡ s = cc in subst (λ (z : List V). In (r.0, z) rs) q h;
    back = λ t h. (t, h, refl, refl);
  }
  bridged (Makes f ∷ more) rs asc = step (λ ts a. bridged more ts a) (each (λ r. f r.1) rs) (each_is f rs asc)
    where
      step : ((ts : List (Row V)) → Ascend ts → Bridged V more ts (whole more ts)) → (q : Staged (List V)) → Each f rs q → Bridged V (Makes f ∷ more) rs (and_then rs q (λ ts. whole more ts))
      step go (Err t) a = record {
        row = a.row;
        row_in = a.row_in;
        iteration = a.iteration;
        fails = ap (made (λ t. moved more t) a.row.1) a.fails;
        first = λ r h o n e. place r h n o (fails_here f more r.1 o n e (f r.1) refl);
      }
        where
          place : (r : Row V) → In r rs → (n : FaultName) (o : ℕ) → (0 < o) ⊎ ((o ≡ 0) × (f r.1 ≡ Err n)) → NotAfter 0 (slice_index_or (iterations_of rs) t.element 0) o r.0
          place r h n o (inl l) = inl l
          place r h n o (inr g) = let l = a.first r h n g.1 in let z = g.0 in let w = a.iteration in inr (sym z, omega (arith, l, w))
      step go (Ok vs) a = lift (Makes f) more rs (pushed vs rs)
          (λ r h. let d = a.down r h in inr ((r.0, d.0 ∷ r.1), d.2, record { same = refl; on = ap (made (λ t. moved more t) r.1) d.1 }))
          (λ t h. let u = a.up t h in (u.0, u.2, record { same = sym (ap (λ (p : Row V). p.0) u.4); on = ap (made (λ t. moved more t) u.0.1) u.3 ∙ ap (λ (p : Row V). deeper (moved more p.1)) (sym u.4) }))
          (whole more (pushed vs rs)) (go (pushed vs rs) a.ascend)
  bridged (Keeps t ∷ more) rs asc =
      let a = tested t rs asc in
      lift (Keeps t) more rs (kept t rs)
      (λ r h. down r (a.down r h))
      (λ r h. let u = a.up r h in (r, u.0, record { same = refl; on = ap (λ (b : Bool). let z : Ended V = if b then deeper (moved more r.1) else Ok None in z) u.1 }))
      (whole more (kept t rs)) (bridged more (kept t rs) a.ascend)
    where
      down : (r : Row V) → (t r.1 ≡ false) ⊎ ((t r.1 ≡ true) × In r (kept t rs)) → (moved (Keeps t ∷ more) r.1 ≡ Ok None) ⊎ ((q : Row V) × In q (kept t rs) × Goes (Keeps t) more r q)
      down r (inl e) = inl (ap (λ (b : Bool). let z : Ended V = if b then deeper (moved more r.1) else Ok None in z) e)
      down r (inr g) = inr (r, g.1, record { same = refl; on = ap (λ (b : Bool). let z : Ended V = if b then deeper (moved more r.1) else Ok None in z) g.0 })

-- the rows that are left ascend
module _ (V : Type 0) where
  ok_further : (r : Result (List (Row V)) Failure) (ts : List (Row V)) → further r ≡ Ok ts → r ≡ Ok ts
  ok_further (Ok x) ts e = e
  ok_further (Err f) ts e = absurd (let z : zero ≡ suc zero = cc in omega (arith, z))

  pub left_ascend : (moves : List (Move V)) (rs ts : List (Row V)) → Ascend rs → whole moves rs ≡ Ok ts → Ascend ts
  left_ascend [] rs ts asc e = subst Ascend (let z : rs ≡ ts = cc in z) asc
  left_ascend (Makes f ∷ more) rs ts asc e = by (λ us a h. left_ascend more us ts a h) (each (λ r. f r.1) rs) (each_is V f rs asc) e
    where
      by : ((us : List (Row V)) → Ascend us → whole more us ≡ Ok ts → Ascend ts) → (q : Staged (List V)) → Each V f rs q → and_then rs q (λ us. whole more us) ≡ Ok ts → Ascend ts
      by rec (Ok vs) a h = rec (pushed vs rs) a.ascend (ok_further (whole more (pushed vs rs)) ts h)
      by rec (Err t) a h = absurd (let z : zero ≡ suc zero = cc in omega (arith, z))
  left_ascend (Keeps t ∷ more) rs ts asc e = left_ascend more (kept t rs) ts (tested V t rs asc).ascend (ok_further (whole more (kept t rs)) ts e)
