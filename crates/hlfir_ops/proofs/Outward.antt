-- The places around, one after another from the outermost one on.
use Rattle.std.proofs.Common.{◌≡◌, sym, ap, ◌∙◌, subst, ℕ, ◌+◌, ◌-◌, ◌<◌, List, [], ◌∷◌, ◌++◌, length, take, drop, get_or, Option, if◌then◌else◌, ◌||◌, Bool, arith}
use Rattle.std.specs.Prelude.{reverse}
use Rattle.std.proofs.lemmas.List.{reverse-append, take_more, take-append-drop, length-take-le}
use Rattle.std.proofs.Math.Seq.{take-length}
use Rattle.ws_base.specs.declared.name.Name.{Name}
use Rattle.hlfir_ops.specs.declared.op.ValueId.{ValueId}
use Rattle.hlfir_ops.specs.declared.op.Region.{Region}
use Rattle.hlfir_ops.specs.declared.entered.Entered.{Entered}
use Rattle.hlfir_ops.specs.Lines.{has_line}
use Rattle.hlfir_ops.specs.Numbers.{names_in}
use Rattle.hlfir_ops.specs.Built.{Place, first_in, names_at, taken_around, index_here, index_around, is_where, masked_around, line_around}
use Rattle.hlfir_ops.specs.Kept.{finished, place_of, places, AreNumbered}
use Rattle.hlfir_ops.proofs.Keeping.{places-push}

places_more : (es : List Entered) (i : ℕ) (d : Entered) → i < length es → places (take (i + 1) es) ≡ place_of (get_or es i d) ∷ places (take i es)
places_more es i d low = ap places (take_more es i d low) ∙ places-push (take i es) (get_or es i d)

numbered_rest : (a b : List Entered) → AreNumbered (a ++ b) → AreNumbered b
numbered_rest [] b h = h
numbered_rest (e ∷ a) b h = numbered_rest a b h.1

-- the first i + 1 of them, turned
turned : (es : List Entered) (i : ℕ) (d : Entered) → i < length es → reverse es ≡ reverse (drop (i + 1) es) ++ get_or es i d ∷ reverse (take i es)
turned es i d low =
    ap reverse (sym (take-append-drop (i + 1) es)) ∙ (reverse-append (take (i + 1) es) (drop (i + 1) es) ∙
    ap (λ l. reverse (drop (i + 1) es) ++ l) (ap reverse (take_more es i d low) ∙ reverse-append (take i es) (get_or es i d ∷ [])))

first_is : (es : List Entered) (i : ℕ) (d : Entered) → i < length es → AreNumbered (reverse es) → (get_or es i d).first ≡ first_in (taken_around (places (take i es))) (place_of (get_or es i d))
first_is es i d low h =
    let P : List Entered → Type 0 = λ l. AreNumbered l in
    (numbered_rest (reverse (drop (i + 1) es)) (get_or es i d ∷ reverse (take i es)) (subst P (turned es i d low) h)).0

finished-length : (regions : List Region) → length (finished regions) ≡ length regions - 1
finished-length regions = length-take-le (length regions - 1) regions (omega arith)

pub index_more : (es : List Entered) (i : ℕ) (e : Entered) (name : Name) (found : Option ValueId) (names : List Name) → i < length es → e ≡ get_or es i e → AreNumbered (reverse es) → names ≡ names_in e.what (length e.regions - 1) →
    found ≡ index_around name (places (take i es)) → index_here name e.first names found ≡ index_around name (places (take (i + 1) es))
index_more es i e name found names low is h brings before =
    let P : Entered → Type 0 = λ x. x.first ≡ first_in (taken_around (places (take i es))) (place_of x) in
    let first : e.first ≡ first_in (taken_around (places (take i es))) (place_of e) = subst P (sym is) (first_is es i e low h) in
    let here : names ≡ names_at (place_of e) = brings ∙ ap (names_in e.what) (sym (finished-length e.regions)) in
    ap (λ f. index_here name f names found) first ∙ (ap (λ l. index_here name (first_in (taken_around (places (take i es))) (place_of e)) l found) here ∙
    (ap (index_here name (first_in (taken_around (places (take i es))) (place_of e)) (names_at (place_of e))) before ∙
    (ap (λ x. index_around name (place_of x ∷ places (take i es))) is ∙ sym (ap (index_around name) (places_more es i e low)))))

pub masked_more : (es : List Entered) (i : ℕ) (e : Entered) (masked : Bool) → i < length es → e ≡ get_or es i e → masked ≡ masked_around (places (take i es)) → (is_where e.what || masked) ≡ masked_around (places (take (i + 1) es))
masked_more es i e masked low is before =
    ap (λ b. is_where e.what || b) before ∙ (ap (λ x. masked_around (place_of x ∷ places (take i es))) is ∙ sym (ap masked_around (places_more es i e low)))

pub line_more : (es : List Entered) (i : ℕ) (e : Entered) (line : ℕ) → i < length es → e ≡ get_or es i e → line ≡ line_around (places (take i es)) → (if has_line e.what then e.line else line) ≡ line_around (places (take (i + 1) es))
line_more es i e line low is before =
    ap (λ n. if has_line e.what then e.line else n) before ∙ (ap (λ x. line_around (place_of x ∷ places (take i es))) is ∙ sym (ap line_around (places_more es i e low)))

pub whole_of : {A : Type 0} (es : List Entered) (i : ℕ) (f : List Place → A) → i ≡ length es → f (places (take i es)) ≡ f (places es)
whole_of es i f is = ap (λ n. f (places (take n es))) is ∙ ap (λ l. f (places l)) (take-length es)
