-- The fields of a builder follow what it holds.
use Rattle.std.proofs.Common.{◌≡◌, sym, ap, ◌∙◌, subst, ℕ, ◌+◌, ◌-◌, ◌^◌, ◌<◌, List, [], ◌∷◌, ◌++◌, map, length, take, slice_set, Option, arith, zero-add, add-zero}
use Rattle.std.specs.Prelude.{reverse}
use Rattle.std.proofs.lemmas.List.{reverse-append, reverse-reverse, length_push, length-set, take_more_set}
use Rattle.std.proofs.Math.Seq.{take-append_seam, take-length}
use Rattle.ws_base.specs.declared.name.Name.{Name}
use Rattle.hlfir_ops.specs.declared.kinds.ValueKind.{ValueKind}
use Rattle.hlfir_ops.specs.declared.what.What.{What}
use Rattle.hlfir_ops.specs.declared.op.ValueId.{ValueId}
use Rattle.hlfir_ops.specs.declared.op.Op.{Op, Op-F, out-Op, out-roll-Op}
use Rattle.hlfir_ops.specs.declared.op.Region.{Region}
use Rattle.hlfir_ops.specs.declared.entered.Entered.{Entered}
use Rattle.hlfir_ops.specs.Trees.{op_of, region_of, with_region}
use Rattle.hlfir_ops.specs.Numbers.{names_in, own_numbers, op_numbers, numbers_of, numbers_in}
use Rattle.hlfir_ops.specs.Built.{Place, Built, HasNoRegions, Enters, closed, left_of, left, first_in, names_at, taken_around, taken}
use Rattle.hlfir_ops.specs.Kept.{finished, place_of, places, AreNumbered}
use Rattle.hlfir_ops.proofs.Numbered.{op_numbers-parts, op_numbers-op_of, numbers_of-push, numbers_in-push}

-- ---- lists by their last item

same_last : {A : Type 0} (xs ys : List A) (x y : A) → xs ++ x ∷ [] ≡ ys ++ y ∷ [] → (xs ≡ ys) × (x ≡ y)
same_last xs ys x y e =
    let turned : x ∷ reverse xs ≡ y ∷ reverse ys = sym (reverse-append xs (x ∷ [])) ∙ (ap reverse e ∙ reverse-append ys (y ∷ [])) in
    let front : reverse xs ≡ reverse ys = cc in
    let last : x ≡ y = cc in
    (sym (reverse-reverse xs) ∙ (ap reverse front ∙ reverse-reverse ys), last)

finished-push : (regions : List Region) (r : Region) → finished (regions ++ r ∷ []) ≡ regions
finished-push regions r =
    let count : length (regions ++ r ∷ []) - 1 ≡ length regions = omega (arith, length_push regions r) in
    ap (λ n. take n (regions ++ r ∷ [])) count ∙ take-append_seam regions (r ∷ [])

set_last : (regions : List Region) (r : Region) → 0 < length regions → slice_set regions (length regions - 1) r ≡ finished regions ++ r ∷ []
set_last regions r some =
    let last = length regions - 1 in
    let count : length (slice_set regions last r) ≡ last + 1 = length-set regions last r ∙ omega (arith, some) in
    sym (take-length (slice_set regions last r)) ∙ (ap (λ n. take n (slice_set regions last r)) count ∙ take_more_set regions last r (omega (arith, some)))

reverse-push : (es : List Entered) (e : Entered) → reverse (es ++ e ∷ []) ≡ e ∷ reverse es
reverse-push es e = reverse-append es (e ∷ [])

pub places-push : (es : List Entered) (e : Entered) → places (es ++ e ∷ []) ≡ place_of e ∷ places es
places-push es e = ap (map place_of) (reverse-push es e)

-- ---- numbers

pub taken-push : (around : ℕ) (ops new : List Op) (op : Op) (n m : ℕ) → new ≡ ops ++ op ∷ [] → HasNoRegions op → n ≡ around + numbers_of ops → m ≡ n + own_numbers (out-Op op).kind → m ≡ around + numbers_of new
taken-push around ops new op n m is none before after =
    let own : op_numbers op ≡ own_numbers (out-Op op).kind = op_numbers-parts op ∙ ap (λ rs. own_numbers (out-Op op).kind + numbers_in (out-Op op).what 0 rs) none ∙ add-zero (own_numbers (out-Op op).kind) in
    omega (arith, own, ap numbers_of is, numbers_of-push ops op, before, after)

closed_numbers : (p : Place) (ops : List Op) → op_numbers (closed p ops) ≡ own_numbers p.kind + (numbers_in p.what 0 p.regions + (length (names_at p) + numbers_of ops))
closed_numbers p ops =
    op_numbers-op_of p.what p.line p.operands p.kind (p.regions ++ region_of ops ∷ []) ∙ (ap (λ n. own_numbers p.kind + n) (numbers_in-push p.what 0 p.regions ops) ∙
    ap (λ k. own_numbers p.kind + (numbers_in p.what 0 p.regions + (length (names_in p.what k) + numbers_of ops))) (zero-add (length p.regions)))

numbered_front : (es : List Entered) (e : Entered) → AreNumbered (reverse (es ++ e ∷ [])) → AreNumbered (e ∷ reverse es)
numbered_front es e h = let P : List Entered → Type 0 = λ l. AreNumbered l in subst P (reverse-push es e) h

-- ---- leaving

pub leaves_numbered : (es old : List Entered) (e : Entered) (ops now : List Op) (n : ℕ) → old ≡ es ++ e ∷ [] → now ≡ e.before.items ++ closed (place_of e) ops ∷ [] → n ≡ taken_around (places old) + numbers_of ops → AreNumbered (reverse old) →
    (n ≡ taken_around (places es) + numbers_of now) × AreNumbered (reverse es)
leaves_numbered es old e ops now n split is before numbered =
    let around : taken_around (places old) ≡ first_in (taken_around (places es)) (place_of e) + length (names_at (place_of e)) = ap taken_around (ap places split ∙ places-push es e) in
    let after : numbers_of now ≡ numbers_of e.before.items + op_numbers (closed (place_of e) ops) = ap numbers_of is ∙ numbers_of-push e.before.items (closed (place_of e) ops) in
    let P : List Entered → Type 0 = λ l. AreNumbered (reverse l) in
    (omega (arith, before, around, after, closed_numbers (place_of e) ops), (numbered_front es e (subst P split numbered)).1)

-- the op is put back with its last region set to these ops
pub put_last : (now dest before ops inner items : List Op) (what : What) (line : ℕ) (operands : List ValueId) (kind : Option ValueKind) (regions set : List Region) (count : ℕ) → now ≡ dest ++ op_of what line operands kind set ∷ [] → dest ≡ before →
    set ≡ slice_set regions (count - 1) (region_of items) → count ≡ length regions → items ≡ inner → inner ≡ ops → 0 < length regions → now ≡ before ++ op_of what line operands kind (finished regions ++ region_of ops ∷ []) ∷ []
put_last now dest before ops inner items what line operands kind regions set count is first put counted from same some =
    let last : set ≡ finished regions ++ region_of ops ∷ [] =
    put ∙ (ap (λ n. slice_set regions (n - 1) (region_of items)) counted ∙ (ap (λ o. slice_set regions (length regions - 1) (region_of o)) (from ∙ same) ∙ set_last regions (region_of ops) some)) in
    is ∙ (ap (λ d. d ++ op_of what line operands kind set ∷ []) first ∙ ap (λ rs. before ++ op_of what line operands kind rs ∷ []) last)

pub leaves : (b : Built) (name : Name) (es old : List Entered) (e : Entered) (ops now : List Op) → record { name = name; around = places old; ops = ops } ≡ b → old ≡ es ++ e ∷ [] → now ≡ e.before.items ++ closed (place_of e) ops ∷ [] →
    record { name = name; around = places es; ops = now } ≡ left b
leaves b name es old e ops now view split is =
    let whole : left_of name (places old) ops ≡ record { name = name; around = places es; ops = e.before.items ++ closed (place_of e) ops ∷ [] } = ap (λ a. left_of name a ops) (ap places split ∙ places-push es e) in
    ap (λ o. record { name = name; around = places es; ops = o }) is ∙ (sym whole ∙ ap left view)

-- ---- entering

-- an op of which no region is entered yet, as a place with these ops before it
abbrev pub at_place : List Op → Op-F Op Region → Place
at_place before f = record { before = before; what = f.what; line = f.line; operands = f.operands; kind = f.kind; regions = f.regions }

held_parts : (op held : Op) → held ≡ with_region op (region_of []) → out-Op held ≡ record { what = (out-Op op).what; line = (out-Op op).line; operands = (out-Op op).operands; kind = (out-Op op).kind; regions = (out-Op op).regions ++ region_of [] ∷ [] }
held_parts op held is =
    ap out-Op is ∙ out-roll-Op (record { what = (out-Op op).what; line = (out-Op op).line; operands = (out-Op op).operands; kind = (out-Op op).kind; regions = (out-Op op).regions ++ region_of [] ∷ [] })

pub stands_held : (op held : Op) → held ≡ with_region op (region_of []) → 0 < length (out-Op held).regions
stands_held op held is = omega (arith, ap (λ f. length f.regions) (held_parts op held is), length_push (out-Op op).regions (region_of []))

pub counted_held : (op held : Op) (n after : ℕ) → held ≡ with_region op (region_of []) → after ≡ n + length (names_in (out-Op op).what (length (out-Op op).regions)) → after < 2 ^ 32 →
    n + length (names_in (out-Op held).what (length (out-Op held).regions - 1)) < 2 ^ 32
counted_held op held n after is sum low =
    let count : length (out-Op held).regions - 1 ≡ length (out-Op op).regions = omega (arith, ap (λ f. length f.regions) (held_parts op held is), length_push (out-Op op).regions (region_of [])) in
    let same : length (names_in (out-Op held).what (length (out-Op held).regions - 1)) ≡ length (names_in (out-Op op).what (length (out-Op op).regions)) =
    ap (λ f. length (names_in f.what (length (out-Op held).regions - 1))) (held_parts op held is) ∙ ap (λ k. length (names_in (out-Op op).what k)) count in
    omega (arith, same, sum, low)

pub place_held : (before : List Op) (op held : Op) → held ≡ with_region op (region_of []) →
    (record { before = before; what = (out-Op held).what; line = (out-Op held).line; operands = (out-Op held).operands; kind = (out-Op held).kind; regions = finished (out-Op held).regions }) ≡ at_place before (out-Op op)
place_held before op held is =
    let f = out-Op op in
    let P : Op-F Op Region → Place = λ g. record { before = before; what = g.what; line = g.line; operands = g.operands; kind = g.kind; regions = finished g.regions } in
    ap P (held_parts op held is) ∙ ap (λ rs. record { before = before; what = f.what; line = f.line; operands = f.operands; kind = f.kind; regions = rs }) (finished-push f.regions (region_of []))

pub enters_numbered : (old now new : List Entered) (e : Entered) (ops before none : List Op) (op : Op) (n after : ℕ) → ops ≡ before ++ op ∷ [] → now ≡ old → new ≡ now ++ e ∷ [] → none ≡ [] → place_of e ≡ at_place before (out-Op op) → e.first ≡ n →
    n ≡ taken_around (places old) + numbers_of ops → after ≡ n + length (names_in (out-Op op).what (length (out-Op op).regions)) → AreNumbered (reverse old) → (after ≡ taken_around (places new) + numbers_of none) × AreNumbered (reverse new)
enters_numbered old now new e ops before none op n after split same added empty place first taken more numbered =
    let is : new ≡ old ++ e ∷ [] = added ∙ ap (λ l. l ++ e ∷ []) same in
    let here : taken_around (places new) ≡ first_in (taken_around (places old)) (at_place before (out-Op op)) + length (names_at (at_place before (out-Op op))) =
    ap taken_around (ap places is ∙ (places-push old e ∙ ap (λ p. p ∷ places old) place)) in
    let count : numbers_of ops ≡ numbers_of before + op_numbers op = ap numbers_of split ∙ numbers_of-push before op in
    let own : e.first ≡ first_in (taken_around (places old)) (place_of e) = first ∙ (taken ∙ (omega (arith, count, op_numbers-parts op) ∙ ap (first_in (taken_around (places old))) (sym place))) in
    let P : List Entered → Type 0 = λ l. AreNumbered l in
    (omega (arith, here, count, op_numbers-parts op, taken, more, ap numbers_of empty), subst P (sym (ap reverse is ∙ reverse-push old e)) (own, numbered))

pub enters : (b : Built) (name : Name) (old now new : List Entered) (e : Entered) (ops before none : List Op) (op : Op) → record { name = name; around = places old; ops = ops } ≡ b → ops ≡ before ++ op ∷ [] → now ≡ old → new ≡ now ++ e ∷ [] → none ≡ [] →
    place_of e ≡ at_place before (out-Op op) → Enters b (record { name = name; around = places new; ops = none })
enters b name old now new e ops before none op view split known added empty place =
    let is : new ≡ old ++ e ∷ [] = added ∙ ap (λ l. l ++ e ∷ []) known in
    let P : Built → Type 0 = λ x. Enters x (record { name = name; around = places new; ops = none }) in
    subst P view (λ front what line operands kind regions other.
    let same = same_last before front op (op_of what line operands kind regions) (sym split ∙ other) in
    let parts : Op-F Op Region = record { what = what; line = line; operands = operands; kind = kind; regions = regions } in
    let held : out-Op op ≡ parts = ap out-Op same.1 ∙ out-roll-Op parts in
    let around : places new ≡ at_place front parts ∷ places old =
    ap places is ∙ (places-push old e ∙ (ap (λ p. p ∷ places old) place ∙ (ap (λ f. at_place before f ∷ places old) held ∙ ap (λ l. at_place l parts ∷ places old) same.0))) in
    ap (λ a. record { name = name; around = a; ops = none }) around ∙ ap (λ o. record { name = name; around = at_place front parts ∷ places old; ops = o }) empty)
