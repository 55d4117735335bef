-- The places that a mask leaves to its block, and those that it leaves to what follows.
use Rattle.std.proofs.Common.{◌≡◌, refl, ap, ◌∙◌, ℕ, zero, suc, ◌<◌, Bool, true, false, List, [], ◌∷◌, ℤ, arith}
use Rattle.std.specs.Prelude.{◌==◌, ◌&&◌, ◌||◌, if◌then◌else◌}
use Rattle.ws_base.specs.Numbers.{is_true}
use Rattle.ws_space.specs.Shapes.{size, places_from}
use Rattle.ws_space.specs.Values.{is_among}
use Rattle.ws_space.specs.Masks.{same_truth, chosen}
use Rattle.array_meaning.specs.Laws.{IsOnce, AllPlacesOnce, ChosenOnce, BlocksAreAll, BlocksAreDisjoint}

-- ---- all places stand once

not_before : (j k n : ℕ) → j < k → is_among j (places_from k n) ≡ false
not_before j k zero h = refl
not_before j k (suc n) h = let e : (j == k) ≡ false = grind arith in rw e (not_before j (suc k) n (omega arith))

places_from-once : (k n : ℕ) → IsOnce (places_from k n)
places_from-once k zero = tt
places_from-once k (suc n) = (not_before k (suc k) n (omega arith), places_from-once (suc k) n)

pub all_places_once : AllPlacesOnce
all_places_once e = places_from-once 0 (size e)

-- ---- a choice leaves places out, and adds none

absent_if : (b : Bool) (p q : ℕ) (rest : List ℕ) → (p == q) ≡ false → is_among p rest ≡ false → is_among p (if b then q ∷ rest else rest) ≡ false
absent_if true p q rest e h = rw e h
absent_if false p q rest e h = h

apart : (p q : ℕ) (qs : List ℕ) → is_among p (q ∷ qs) ≡ false → ((p == q) ≡ false) × (is_among p qs ≡ false)
apart p q qs h = (grind arith, grind arith)

absent : (want : Bool) (ps : List ℕ) (xs : List ℤ) (p : ℕ) → is_among p ps ≡ false → is_among p (chosen want ps xs) ≡ false
absent want [] xs p h = refl
absent want (q ∷ qs) [] p h = refl
absent want (q ∷ qs) (x ∷ xs) p h =
    let parts = apart p q qs h in
    absent_if (same_truth want (is_true x)) p q (chosen want qs xs) parts.0 (absent want qs xs p parts.1)

once_if : (b : Bool) (q : ℕ) (rest : List ℕ) → is_among q rest ≡ false → IsOnce rest → IsOnce (if b then q ∷ rest else rest)
once_if true q rest h once = (h, once)
once_if false q rest h once = once

pub chosen_once : ChosenOnce
chosen_once want [] xs once = tt
chosen_once want (q ∷ qs) [] once = tt
chosen_once want (q ∷ qs) (x ∷ xs) once = once_if (same_truth want (is_true x)) q (chosen want qs xs) (absent want qs xs q once.0) (chosen_once want qs xs once.1)

-- ---- the two blocks

all_if : (b c : Bool) (inner outer all : List ℕ) (p q : ℕ) → (is_among p inner || is_among p outer) ≡ is_among p all →
    (is_among p (if same_truth true b then q ∷ inner else inner) || is_among p (if same_truth false b then q ∷ outer else outer)) ≡ is_among p (q ∷ all)
all_if true c inner outer all p q h = grind arith
all_if false c inner outer all p q h = grind arith

pub blocks_are_all : BlocksAreAll
blocks_are_all [] [] e p = refl
blocks_are_all [] (x ∷ xs) e p = refl
blocks_are_all (q ∷ qs) [] e p = absurd (omega arith)
blocks_are_all (q ∷ qs) (x ∷ xs) e p = all_if (is_true x) true (chosen true qs xs) (chosen false qs xs) qs p q (blocks_are_all qs xs (omega arith) p)

disjoint_if : (b c : Bool) (inner outer : List ℕ) (p q : ℕ) → (p == q) ≡ c → is_among q inner ≡ false → is_among q outer ≡ false → (is_among p inner && is_among p outer) ≡ false →
    (is_among p (if same_truth true b then q ∷ inner else inner) && is_among p (if same_truth false b then q ∷ outer else outer)) ≡ false
disjoint_if true true inner outer p q e f g h = let same : p ≡ q = grind arith in let none : is_among p outer ≡ false = ap (λ z. is_among z outer) same ∙ g in rw none (grind arith)
disjoint_if true false inner outer p q e f g h = rw e h
disjoint_if false true inner outer p q e f g h = let same : p ≡ q = grind arith in let none : is_among p inner ≡ false = ap (λ z. is_among z inner) same ∙ f in rw none refl
disjoint_if false false inner outer p q e f g h = rw e h

pub blocks_are_disjoint : BlocksAreDisjoint
blocks_are_disjoint [] xs once p = refl
blocks_are_disjoint (q ∷ qs) [] once p = refl
blocks_are_disjoint (q ∷ qs) (x ∷ xs) once p =
    disjoint_if (is_true x) (p == q) (chosen true qs xs) (chosen false qs xs) p q refl (absent true qs xs q once.0) (absent false qs xs q once.0) (blocks_are_disjoint qs xs once.1 p)
