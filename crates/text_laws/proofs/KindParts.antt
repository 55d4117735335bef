-- The text of a kind stands for what it shows of the kind.
use Rattle.std.proofs.Common.{◌≡◌, refl, sym, ap, ◌∙◌, subst, ℕ, suc, zero, ◌+◌, ◌-◌, ◌<◌, ◌≤◌, ◌^◌, Bool, true, false, ◌||◌, ◌==◌, List, [], ◌∷◌, ◌++◌, Some, ℤ, pos, negsuc, ◌+ℤ◌, ◌-ℤ◌, decimal, codes, arith, true≢false, append_assoc, get_or, take, ltb, ltb-true}
use Rattle.std.specs.Fmt.{signed_decimal}
use Rattle.std.specs.List.{list_all, flat_map}
use Rattle.std.proofs.lemmas.Bool.{and_parts, or_left, cond_both}
use Rattle.std.proofs.Math.IntN.{sub_ℕ}
use Rattle.std.proofs.lemmas.Int.{ints}
use Rattle.ws_base.specs.Numbers.{in_range, default_half}
use Rattle.ws_space.specs.Shapes.{dims, upper, shape_of}
use Rattle.ws_space.specs.declared.shape.Dim.{Dim}
use Rattle.ws_space.specs.declared.shape.Shape.{Shape}
use Rattle.hlfir_ops.specs.declared.kinds.Elem.{Elem}
use Rattle.hlfir_ops.specs.declared.kinds.Elem.TheVariants.{I32, I1}
use Rattle.hlfir_ops.specs.declared.kinds.ValueKind.{ValueKind}
use Rattle.hlfir_ops.specs.declared.kinds.ValueKind.TheVariants as kind
use Rattle.hlfir_text.specs.KindText.{elem_text, dim_text, open_dims, kind_text}
use Rattle.text_laws.specs.Shown.{shown_kind}
use Rattle.text_laws.specs.Writable.{is_digit, fits_32, fits_64, fits_dim, fits_kind}
use Rattle.text_laws.proofs.Runs.{heads, tails, joined, Begins, same_decimal, same_signed, decimal-begins, magnitude}

-- ---- elements

same_elem_text : (e f : Elem) (s t : List ℕ) → elem_text e ++ s ≡ elem_text f ++ t → (e ≡ f) × (s ≡ t)
same_elem_text I32 I32 s t h = (refl, tails (tails (tails h)))
same_elem_text I32 I1 s t h = absurd (let k : 51 ≡ 49 = heads (tails h) in omega (arith, k))
same_elem_text I1 I32 s t h = absurd (let k : 49 ≡ 51 = heads (tails h) in omega (arith, k))
same_elem_text I1 I1 s t h = (refl, tails (tails h))

elem-first : (e : Elem) (s : List ℕ) → (t : List ℕ) × (elem_text e ++ s ≡ 105 ∷ t)
elem-first I32 s = (51 ∷ 50 ∷ s, refl)
elem-first I1 s = (49 ∷ s, refl)

-- ---- dimensions of a declared array

pub small_lower : (z : ℤ) → in_range default_half z ≡ true → magnitude z ≤ 2147483648
small_lower (pos n) h = omega (arith, ltb-true n 2147483648 h)
small_lower (negsuc n) h = omega (arith, ltb-true n 2147483648 h)

magnitude-sub : (a b : ℕ) → magnitude (sub_ℕ a b) ≤ a + b
magnitude-sub a b = cond_both (ltb a b) (negsuc (b - suc a)) (pos (a - b)) (λ z. magnitude z ≤ a + b) (λ h. omega (arith, ltb-true a b h)) (λ h. omega arith)

magnitude-add : (z : ℤ) (n : ℕ) → magnitude (z +ℤ pos n) ≤ magnitude z + n
magnitude-add (pos m) n = omega arith
magnitude-add (negsuc m) n = omega (arith, magnitude-sub n (suc m))

magnitude-less : (z : ℤ) → magnitude (z -ℤ pos 1) ≤ magnitude z + 1
magnitude-less (pos n) = magnitude-sub n 1
magnitude-less (negsuc n) = omega arith

small_upper : (z : ℤ) (n : ℕ) → magnitude z ≤ 2147483648 → n < 18446744073709551616 → magnitude (z +ℤ pos n -ℤ pos 1) < 10 ^ 64
small_upper z n h k = omega (arith, magnitude-less (z +ℤ pos n), magnitude-add z n)

same_extent : (z : ℤ) (m n : ℕ) → z +ℤ pos m -ℤ pos 1 ≡ z +ℤ pos n -ℤ pos 1 → m ≡ n
same_extent z m n h = omega (arith, ints)

dim_text-then : (d : Dim) (s : List ℕ) → dim_text d ++ s ≡ signed_decimal d.lower ++ (58 ∷ (signed_decimal (upper d) ++ (120 ∷ s)))
dim_text-then d s = simp append_assoc

same_dim_text : (d f : Dim) (s t : List ℕ) → fits_dim d ≡ true → fits_dim f ≡ true → dim_text d ++ s ≡ dim_text f ++ t → (d ≡ f) × (s ≡ t)
same_dim_text d f s t p q h =
    let p' = and_parts (in_range default_half d.lower) (fits_64 d.extent) p in
    let q' = and_parts (in_range default_half f.lower) (fits_64 f.extent) q in
    let lower_d = small_lower d.lower p'.0 in
    let lower_f = small_lower f.lower q'.0 in
    let upper_d = small_upper d.lower d.extent lower_d (ltb-true d.extent 18446744073709551616 p'.1) in
    let upper_f = small_upper f.lower f.extent lower_f (ltb-true f.extent 18446744073709551616 q'.1) in
    let lowers = same_signed d.lower f.lower (58 ∷ (signed_decimal (upper d) ++ (120 ∷ s))) (58 ∷ (signed_decimal (upper f) ++ (120 ∷ t))) (omega arith) (omega arith) refl refl (sym (dim_text-then d s) ∙ (h ∙ dim_text-then f t)) in
    let uppers = same_signed (upper d) (upper f) (120 ∷ s) (120 ∷ t) upper_d upper_f refl refl (tails lowers.1) in
    let extents = same_extent d.lower d.extent f.extent (uppers.0 ∙ ap (λ (z : ℤ). z +ℤ pos f.extent -ℤ pos 1) (sym lowers.0)) in
    (same_fields d f lowers.0 extents, tails uppers.1)
  where
    same_fields : (d f : Dim) → d.lower ≡ f.lower → d.extent ≡ f.extent → d ≡ f
    same_fields d f l e i = record { lower = l i; extent = e i }

-- a number, with its sign
abbrev pub numeral : ℕ → Bool
numeral c = is_digit c || c == 45

digit_first : (s : List ℕ) → Begins is_digit s → Begins numeral s
digit_first [] h = h
digit_first (c ∷ cs) h = or_left (is_digit c) (c == 45) h

pub signed-first : (z : ℤ) (s : List ℕ) → magnitude z < 10 ^ 64 → Begins numeral (signed_decimal z ++ s)
signed-first (pos n) s h = digit_first (decimal n ++ s) (decimal-begins n s h)
signed-first (negsuc n) s h = refl

dim-first : (d : Dim) (s : List ℕ) → fits_dim d ≡ true → Begins numeral (dim_text d ++ s)
dim-first d s h =
    let small = small_lower d.lower (and_parts (in_range default_half d.lower) (fits_64 d.extent) h).0 in
    subst (Begins numeral) (sym (dim_text-then d s)) (signed-first d.lower (58 ∷ (signed_decimal (upper d) ++ (120 ∷ s))) (omega arith))

-- what begins with a number does not begin with another byte
pub not_numeral : (c : ℕ) (s t : List ℕ) → Begins numeral s → numeral c ≡ false → s ≡ c ∷ t → ⊥
not_numeral c s t b n e = true≢false (sym (subst (Begins numeral) e b) ∙ n)

dims-first : (d : Dim) (ds : List Dim) (s : List ℕ) → list_all fits_dim (d ∷ ds) ≡ true → Begins numeral (flat_map dim_text (d ∷ ds) ++ s)
dims-first d ds s h =
    subst (Begins numeral) (sym (append_assoc (dim_text d) (flat_map dim_text ds) s)) (dim-first d (flat_map dim_text ds ++ s) (and_parts (fits_dim d) (list_all fits_dim ds) h).0)

same_dims_text : (ds fs : List Dim) (e f : Elem) (s t : List ℕ) → list_all fits_dim ds ≡ true → list_all fits_dim fs ≡ true → flat_map dim_text ds ++ (elem_text e ++ s) ≡ flat_map dim_text fs ++ (elem_text f ++ t) → (ds ≡ fs) × (e ≡ f) × (s ≡ t)
same_dims_text [] [] e f s t p q h = let r = same_elem_text e f s t h in (refl, r.0, r.1)
same_dims_text [] (d ∷ fs) e f s t p q h = let k = elem-first e s in absurd (not_numeral 105 _ k.0 (dims-first d fs (elem_text f ++ t) q) refl (sym h ∙ k.1))
same_dims_text (d ∷ ds) [] e f s t p q h = let k = elem-first f t in absurd (not_numeral 105 _ k.0 (dims-first d ds (elem_text e ++ s) p) refl (h ∙ k.1))
same_dims_text (d ∷ ds) (g ∷ fs) e f s t p q h =
    let p' = and_parts (fits_dim d) (list_all fits_dim ds) p in
    let q' = and_parts (fits_dim g) (list_all fits_dim fs) q in
    let first = same_dim_text d g (flat_map dim_text ds ++ (elem_text e ++ s)) (flat_map dim_text fs ++ (elem_text f ++ t)) p'.0 q'.0
    (sym (append_assoc (dim_text d) (flat_map dim_text ds) (elem_text e ++ s)) ∙ (h ∙ append_assoc (dim_text g) (flat_map dim_text fs) (elem_text f ++ t))) in
    let more = same_dims_text ds fs e f s t p'.1 q'.1 first.1 in
    (joined first.0 more.0, more.1, more.2)

-- ---- dimensions of an allocatable

open_dims-then : (n : ℕ) (s : List ℕ) → open_dims (suc n) ++ s ≡ 63 ∷ 120 ∷ (open_dims n ++ s)
open_dims-then zero s = refl
open_dims-then (suc n) s =
    append_assoc (open_dims (suc n)) (63 ∷ 120 ∷ []) s ∙ (open_dims-then n (63 ∷ 120 ∷ s) ∙ ap (λ (t : List ℕ). 63 ∷ 120 ∷ t) (sym (append_assoc (open_dims n) (63 ∷ 120 ∷ []) s)))

same_open_dims : (m n : ℕ) (e f : Elem) (s t : List ℕ) → open_dims m ++ (elem_text e ++ s) ≡ open_dims n ++ (elem_text f ++ t) → (m ≡ n) × (e ≡ f) × (s ≡ t)
same_open_dims zero zero e f s t h = let r = same_elem_text e f s t h in (refl, r.0, r.1)
same_open_dims zero (suc n) e f s t h = absurd (let k : 105 ≡ 63 = heads (sym (elem-first e s).1 ∙ (h ∙ open_dims-then n (elem_text f ++ t))) in omega (arith, k))
same_open_dims (suc m) zero e f s t h = absurd (let k : 63 ≡ 105 = heads (sym (open_dims-then m (elem_text e ++ s)) ∙ (h ∙ (elem-first f t).1)) in omega (arith, k))
same_open_dims (suc m) (suc n) e f s t h =
    let more = same_open_dims m n e f s t (tails (tails (sym (open_dims-then m (elem_text e ++ s)) ∙ (h ∙ open_dims-then n (elem_text f ++ t))))) in
    (ap suc more.0, more.1, more.2)

-- ---- kinds

-- The kind is known from its text: the op is a box, which gives an allocatable, or it is another, where a kind of rank 0 has no dimensions.
abbrev pub IsTold : Bool → ValueKind → Type 0
IsTold true (kind.Allocatable e rank) = Unit {0}
IsTold true _ = ⊥
IsTold false (kind.Declared e shape) = 0 < shape.rank
IsTold false (kind.Allocatable e rank) = 0 < rank
IsTold false _ = Unit {0}

-- the kind's text and what stands after it
abbrev kind_then : ValueKind → List ℕ → List ℕ
kind_then (kind.Scalar e) s = elem_text e ++ s
kind_then (kind.Place e) s = codes "ref<" ++ (elem_text e ++ (62 ∷ s))
kind_then (kind.Declared e shape) s = codes "ref<" ++ (flat_map dim_text (dims shape) ++ (elem_text e ++ (62 ∷ s)))
kind_then (kind.Allocatable e rank) s = codes "ref<" ++ (open_dims rank ++ (elem_text e ++ (62 ∷ s)))
kind_then (kind.Section e rank) s = codes "sec<" ++ (decimal rank ++ (120 ∷ (elem_text e ++ (62 ∷ s))))
kind_then (kind.Array e rank) s = codes "expr<" ++ (decimal rank ++ (120 ∷ (elem_text e ++ (62 ∷ s))))

kind_text-then : (k : ValueKind) (s : List ℕ) → kind_text k ++ s ≡ kind_then k s
kind_text-then (kind.Scalar e) s = refl
kind_text-then (kind.Place e) s = simp append_assoc
kind_text-then (kind.Declared e shape) s = simp append_assoc
kind_text-then (kind.Allocatable e rank) s = simp append_assoc
kind_text-then (kind.Section e rank) s = simp append_assoc
kind_text-then (kind.Array e rank) s = simp append_assoc

abbrev first_byte : ValueKind → ℕ
first_byte (kind.Scalar e) = 105
first_byte (kind.Section e rank) = 115
first_byte (kind.Array e rank) = 101
first_byte _ = 114

kind-first : (k : ValueKind) (s : List ℕ) → get_or (kind_then k s) 0 0 ≡ first_byte k
kind-first (kind.Scalar I32) s = refl
kind-first (kind.Scalar I1) s = refl
kind-first (kind.Place e) s = refl
kind-first (kind.Declared e shape) s = refl
kind-first (kind.Allocatable e rank) s = refl
kind-first (kind.Section e rank) s = refl
kind-first (kind.Array e rank) s = refl

past_ref : {a b c d a' b' c' d' : ℕ} {s t : List ℕ} → a ∷ b ∷ c ∷ d ∷ s ≡ a' ∷ b' ∷ c' ∷ d' ∷ t → s ≡ t
past_ref h = tails (tails (tails (tails h)))

past_rank : (m n : ℕ) (e f : Elem) (s t : List ℕ) → fits_32 m ≡ true → fits_32 n ≡ true → decimal m ++ (120 ∷ (elem_text e ++ (62 ∷ s))) ≡ decimal n ++ (120 ∷ (elem_text f ++ (62 ∷ t))) → (m ≡ n) × (e ≡ f) × (s ≡ t)
past_rank m n e f s t p q h =
    let small_m = ltb-true m 4294967296 p in
    let small_n = ltb-true n 4294967296 q in
    let ranks = same_decimal m n (120 ∷ (elem_text e ++ (62 ∷ s))) (120 ∷ (elem_text f ++ (62 ∷ t))) (omega arith) (omega arith) refl refl h in
    let elems = same_elem_text e f (62 ∷ s) (62 ∷ t) (tails ranks.1) in
    (ranks.0, elems.0, tails elems.1)

taken-first : (n : ℕ) (d : Dim) (ds : List Dim) (s : List ℕ) → 0 < n → list_all fits_dim (take n (d ∷ ds)) ≡ true → Begins numeral (flat_map dim_text (take n (d ∷ ds)) ++ s)
taken-first zero d ds s some h = absurd (omega arith)
taken-first (suc n) d ds s some h = dims-first d (take n ds) s h

-- a scalar's place has no dimensions
no_dims : (shape : Shape) (e : Elem) (s t : List ℕ) → 0 < shape.rank → list_all fits_dim (dims shape) ≡ true → elem_text e ++ s ≡ flat_map dim_text (dims shape) ++ t → ⊥
no_dims shape e s t some fit h =
    let k = elem-first e s in
    not_numeral 105 (flat_map dim_text (dims shape) ++ t) k.0 (taken-first shape.rank shape.d1 (shape.d2 ∷ shape.d3 ∷ []) t some fit) refl (sym h ∙ k.1)

no_open_dims : (n : ℕ) (e : Elem) (s t : List ℕ) → 0 < n → elem_text e ++ s ≡ open_dims n ++ t → ⊥
no_open_dims zero e s t some h = omega arith
no_open_dims (suc n) e s t some h = let k : 105 ≡ 63 = heads (sym (elem-first e s).1 ∙ (h ∙ open_dims-then n t)) in omega (arith, k)

not_both_dims : (shape : Shape) (n : ℕ) (s t : List ℕ) → 0 < shape.rank → list_all fits_dim (dims shape) ≡ true → 0 < n → flat_map dim_text (dims shape) ++ s ≡ open_dims n ++ t → ⊥
not_both_dims shape zero s t some fit more h = omega arith
not_both_dims shape (suc n) s t some fit more h = not_numeral 63 (flat_map dim_text (dims shape) ++ s) _ (taken-first shape.rank shape.d1 (shape.d2 ∷ shape.d3 ∷ []) s some fit) refl (h ∙ open_dims-then n t)

same_allocatable : (e f : Elem) (m n : ℕ) (s t : List ℕ) → kind_then (kind.Allocatable e m) s ≡ kind_then (kind.Allocatable f n) t → (kind.Allocatable e m ≡ kind.Allocatable f n) × (s ≡ t)
same_allocatable e f m n s t h =
    let r = same_open_dims m n e f (62 ∷ s) (62 ∷ t) (past_ref h) in
    ((λ i. kind.Allocatable (r.1 i) (r.0 i)), tails r.2)

same_box : (k l : ValueKind) (s t : List ℕ) → IsTold true k → IsTold true l → kind_then k s ≡ kind_then l t → (shown_kind k ≡ shown_kind l) × (s ≡ t)
same_box (kind.Allocatable e m) (kind.Allocatable f n) s t p q h = same_allocatable e f m n s t h
same_box (kind.Allocatable e m) l s t p q h = absurd q
same_box k l s t p q h = absurd p

same_other : (k l : ValueKind) (s t : List ℕ) → IsTold false k → IsTold false l → fits_kind (Some k) ≡ true → fits_kind (Some l) ≡ true → kind_then k s ≡ kind_then l t → (shown_kind k ≡ shown_kind l) × (s ≡ t)
same_other (kind.Scalar e) (kind.Scalar f) s t p q u v h = let r = same_elem_text e f s t h in (ap kind.Scalar r.0, r.1)
same_other (kind.Place e) (kind.Place f) s t p q u v h = let r = same_elem_text e f (62 ∷ s) (62 ∷ t) (past_ref h) in (ap kind.Place r.0, tails r.1)
same_other (kind.Place e) (kind.Declared f shape) s t p q u v h = absurd (no_dims shape e (62 ∷ s) (elem_text f ++ (62 ∷ t)) q v (past_ref h))
same_other (kind.Place e) (kind.Allocatable f n) s t p q u v h = absurd (no_open_dims n e (62 ∷ s) (elem_text f ++ (62 ∷ t)) q (past_ref h))
same_other (kind.Declared e shape) (kind.Place f) s t p q u v h = absurd (no_dims shape f (62 ∷ t) (elem_text e ++ (62 ∷ s)) p u (sym (past_ref h)))
same_other (kind.Declared e a) (kind.Declared f b) s t p q u v h =
    let r = same_dims_text (dims a) (dims b) e f (62 ∷ s) (62 ∷ t) u v (past_ref h) in
    ((λ i. kind.Declared (r.1 i) (shape_of (r.0 i))), tails r.2)
same_other (kind.Declared e shape) (kind.Allocatable f n) s t p q u v h = absurd (not_both_dims shape n (elem_text e ++ (62 ∷ s)) (elem_text f ++ (62 ∷ t)) p u q (past_ref h))
same_other (kind.Allocatable e n) (kind.Place f) s t p q u v h = absurd (no_open_dims n f (62 ∷ t) (elem_text e ++ (62 ∷ s)) p (sym (past_ref h)))
same_other (kind.Allocatable e n) (kind.Declared f shape) s t p q u v h = absurd (not_both_dims shape n (elem_text f ++ (62 ∷ t)) (elem_text e ++ (62 ∷ s)) q v p (sym (past_ref h)))
same_other (kind.Allocatable e m) (kind.Allocatable f n) s t p q u v h = same_allocatable e f m n s t h
same_other (kind.Section e m) (kind.Section f n) s t p q u v h = let r = past_rank m n e f s t u v (past_ref h) in ((λ i. kind.Section (r.1 i) (r.0 i)), r.2)
same_other (kind.Array e m) (kind.Array f n) s t p q u v h = let r = past_rank m n e f s t u v (tails (past_ref h)) in ((λ i. kind.Array (r.1 i) (r.0 i)), r.2)
same_other k l s t p q u v h = absurd (let f : first_byte k ≡ first_byte l = sym (kind-first k s) ∙ (ap (λ (x : List ℕ). get_or x 0 0) h ∙ kind-first l t) in omega (arith, f))

pub same_kind_text : (b : Bool) (k l : ValueKind) (s t : List ℕ) → IsTold b k → IsTold b l → fits_kind (Some k) ≡ true → fits_kind (Some l) ≡ true → kind_text k ++ s ≡ kind_text l ++ t → (shown_kind k ≡ shown_kind l) × (s ≡ t)
same_kind_text true k l s t p q u v h = same_box k l s t p q (sym (kind_text-then k s) ∙ (h ∙ kind_text-then l t))
same_kind_text false k l s t p q u v h = same_other k l s t p q u v (sym (kind_text-then k s) ∙ (h ∙ kind_text-then l t))
