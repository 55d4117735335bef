-- Loops that lower one item after another: the invariant is that with the items that are left these are all.
use Rattle.std.proofs.Common.{◌≡◌, refl, sym, ap, ◌∙◌, subst, ℕ, suc, ◌+◌, ◌≤◌, List, [], ◌∷◌, ◌++◌, length, drop, append_assoc, append-nil}
use Rattle.std.specs.Prelude.{⊤}
use Rattle.std.proofs.Math.ListN.{drop_of_length-le}
use Rattle.hlfir_ops.specs.Built.{Built}
use Rattle.lower_values.specs.declared.names.Names.{Names}
use Rattle.lower_values.specs.Lowerings.{Lowering, done, in_turn, Appends}
use Rattle.lower_values.proofs.Appended.{appends-by, appends-done, appends-next}

-- ---- `p k` lowers the items from place k on to a list

-- with what is lowered of the items that are left these are all
abbrev pub MakesAll : {X A : Type 0} → Names → (ℕ → List X → Lowering (List A)) → List X → ℕ → Built → Built → List A → Type 0
MakesAll {X} {A} names p xs i initial build made = (new : Built) (rest : List A) → Appends names (p i (drop i xs)) build new rest → Appends names (p 0 xs) initial new (made ++ rest)

pub makes-next : {X A : Type 0} (names : Names) (p : ℕ → List X → Lowering (List A)) (xs : List X) (i : ℕ) (x : X) {initial build mid : Built} (made more : List A) {after : List A} → drop i xs ≡ x ∷ drop (i + 1) xs → after ≡ made ++ more → MakesAll names p xs i initial build made →
    ((new : Built) (rest : List A) → Appends names (p (i + 1) (drop (i + 1) xs)) mid new rest → Appends names (p i (x ∷ drop (i + 1) xs)) build new (more ++ rest)) → MakesAll names p xs (i + 1) initial mid after
makes-next {X} {A} names p xs i x {initial} {build} {mid} made more {after} front added before step new rest h =
    let P : List X → Type 0 = λ l. Appends names (p i l) build new (more ++ rest) in
    let Q : List A → Type 0 = λ l. Appends names (p 0 xs) initial new l in
    subst Q (sym (ap (λ l. l ++ rest) added ∙ append_assoc made more rest)) (before new (more ++ rest) (subst P (sym front) (step new rest h)))

pub makes-done : {X A : Type 0} (names : Names) (p : ℕ → List X → Lowering (List A)) (xs : List X) (i : ℕ) {initial build : Built} (made : List A) → length xs ≤ i → p i [] ≡ done [] → MakesAll names p xs i initial build made → Appends names (p 0 xs) initial build made
makes-done {X} {A} names p xs i {initial} {build} made all none before =
    let P : Lowering (List A) → Type 0 = λ l. Appends names l build build [] in
    let Q : List A → Type 0 = λ l. Appends names (p 0 xs) initial build l in
    subst Q (append-nil made) (before build [] (subst P (sym (ap (p i) (drop_of_length-le xs all) ∙ none)) (appends-done names build [])))

-- ---- `p k` lowers the items from place k on and makes nothing

abbrev pub LowersAll : {X : Type 0} → Names → (ℕ → List X → Lowering ⊤) → List X → ℕ → Built → Built → Type 0
LowersAll names p xs i initial build = (new : Built) → Appends names (p i (drop i xs)) build new tt → Appends names (p 0 xs) initial new tt

pub lowers-next : {X : Type 0} (names : Names) (p : ℕ → List X → Lowering ⊤) (xs : List X) (i : ℕ) (x : X) {initial build mid : Built} → drop i xs ≡ x ∷ drop (i + 1) xs → LowersAll names p xs i initial build →
    ((new : Built) → Appends names (p (i + 1) (drop (i + 1) xs)) mid new tt → Appends names (p i (x ∷ drop (i + 1) xs)) build new tt) → LowersAll names p xs (i + 1) initial mid
lowers-next {X} names p xs i x {initial} {build} {mid} front before step new h =
    let P : List X → Type 0 = λ l. Appends names (p i l) build new tt in before new (subst P (sym front) (step new h))

pub lowers-done : {X : Type 0} (names : Names) (p : ℕ → List X → Lowering ⊤) (xs : List X) (i : ℕ) {initial build : Built} → length xs ≤ i → p i [] ≡ done tt → LowersAll names p xs i initial build → Appends names (p 0 xs) initial build tt
lowers-done {X} names p xs i {initial} {build} all none before =
    let P : Lowering ⊤ → Type 0 = λ l. Appends names l build build tt in
    before build (subst P (sym (ap (p i) (drop_of_length-le xs all) ∙ none)) (appends-done names build tt))

pub in_turn-none : {X : Type 0} (f : ℕ → X → Lowering ⊤) (k : ℕ) → in_turn f k [] ≡ done tt
unfolding in_turn
in_turn-none f k = refl

pub in_turn-more : {X : Type 0} (names : Names) (f : ℕ → X → Lowering ⊤) (k after : ℕ) (x : X) (xs : List X) {old mid : Built} → after ≡ suc k → Appends names (f k x) old mid tt → (new : Built) → Appends names (in_turn f after xs) mid new tt → Appends names (in_turn f k (x ∷ xs)) old new tt
unfolding in_turn
in_turn-more names f k after x xs {old} {mid} next first new rest =
    appends-next names (f k x) (λ _. in_turn f (suc k) xs) old mid new tt tt first (appends-by (ap (λ j. in_turn f j xs) next) refl rest)
