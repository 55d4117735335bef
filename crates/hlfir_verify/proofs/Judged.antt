-- Ops judged one after another.
use Rattle.std.proofs.Common.{◌≡◌, refl, ap, sym, ◌∙◌, subst, ℕ, suc, ◌+◌, ◌<◌, List, [], ◌∷◌, ◌++◌, length, get_or, take, drop, Option, Some, None, Result, Ok, Err, arith, add-one}
use Rattle.std.specs.Result.{IsErrAnd}
use Rattle.std.proofs.lemmas.List.{map-append}
use Rattle.ws_base.specs.Outcomes.{◌>>=◌}
use Rattle.hlfir_ops.specs.declared.what.What.{What}
use Rattle.hlfir_ops.specs.declared.op.Op.{Op, out-Op}
use Rattle.hlfir_ops.specs.declared.op.Region.{Region, out-Region}
use Rattle.hlfir_ops.specs.Numbers.{names_in, own_numbers, op_numbers, numbers_of, numbers_in}
use Rattle.hlfir_ops.specs.RulesPlaces.{Around, Place, Site, around_in, from_number, own_defined, op_sites, sites_of, sites_in}
use Rattle.hlfir_ops.specs.Rules.{Facts}
use Rattle.hlfir_ops.proofs.Numbered.{op_numbers-parts}
use Rattle.hlfir_ops.proofs.Sites.{op_sites-parts}
use Rattle.rule_tests.proofs.Appended.{front, before_next}
use Rattle.hlfir_verify.specs.declared.ending.Rule.{Rule}
use Rattle.hlfir_verify.specs.declared.ending.VerifyEnd.{VerifyEnd}
use Rattle.hlfir_verify.specs.declared.ending.VerifyEnd.TheVariants as end
use Rattle.hlfir_verify.specs.Verdicts.{verdict, verdicts, judged, Tells}

-- ---- verdicts in order

judged-append : (p : ℕ) (xs ys : List (Option Rule)) → judged p (xs ++ ys) ≡ judged p xs >>= (λ q. judged q ys)
judged-append p [] ys = refl
judged-append p (None ∷ xs) ys = judged-append (suc p) xs ys
judged-append p (Some r ∷ xs) ys = refl

continued : (p q : ℕ) (xs ys : List (Option Rule)) → judged p xs ≡ Ok q → judged p (xs ++ ys) ≡ judged q ys
continued p q xs ys e = judged-append p xs ys ∙ ap (λ o. o >>= (λ r. judged r ys)) e

abbrev pub Told : Result (Unit {0}) VerifyEnd → ℕ → Result ℕ VerifyEnd → Type 0
Told = Tells {A = Unit {0}}

told_first : (e : VerifyEnd) (at p : ℕ) (xs ys : List (Option Rule)) → Told (Err e) at (judged p xs) → Told (Err e) at (judged p (xs ++ ys))
told_first (end.BadOp op r) at p xs ys h = judged-append p xs ys ∙ ap (λ o. o >>= (λ q. judged q ys)) h
told_first end.Memory at p xs ys h = tt

-- an error that is handed on
handed_on : (r : Result (Unit {0}) VerifyEnd) (e : VerifyEnd) (at : ℕ) (whole : Result ℕ VerifyEnd) → IsErrAnd r (λ x. x ≡ e) → Told (Err e) at whole → Told r at whole
handed_on (Ok x) e at whole h t = absurd h
handed_on (Err x) e at whole h t = let P : VerifyEnd → Type 0 = λ y. Told (Err y) at whole in subst P (sym h) t

-- ---- an op, and those inside it

pub inside_op : (f : Facts) (p : Place) (op : Op) (regions : List Region) (from at n : ℕ) (d : List ℕ) → judged from (verdict f (record { place = p; op = op }) ∷ []) ≡ Ok at → n ≡ own_numbers (out-Op op).kind + p.number →
    d ≡ p.defined → regions ≡ (out-Op op).regions → judged at (verdicts f (sites_in p.around (out-Op op).what 0 n d regions)) ≡ judged from (verdicts f (op_sites p op))
inside_op f p op regions from at n d passed number defined same =
    ap (λ m. judged at (verdicts f (sites_in p.around (out-Op op).what 0 m d regions))) number
    ∙ ap (λ l. judged at (verdicts f (sites_in p.around (out-Op op).what 0 (own_numbers (out-Op op).kind + p.number) l regions))) defined
    ∙ ap (λ rs. judged at (verdicts f (sites_in p.around (out-Op op).what 0 (own_numbers (out-Op op).kind + p.number) p.defined rs))) same
    ∙ sym (continued from at (verdict f (record { place = p; op = op }) ∷ []) (verdicts f (sites_in p.around (out-Op op).what 0 (own_numbers (out-Op op).kind + p.number) p.defined (out-Op op).regions)) passed)
    ∙ ap (λ ss. judged from (verdicts f ss)) (sym (op_sites-parts p op))

pub op_numbered : (op : Op) (regions : List Region) (from n : ℕ) → n ≡ own_numbers (out-Op op).kind + from → regions ≡ (out-Op op).regions → numbers_in (out-Op op).what 0 regions + n ≡ op_numbers op + from
op_numbered op regions from n number same =
    ap (λ rs. numbers_in (out-Op op).what 0 rs + n) same
    ∙ (let e : numbers_in (out-Op op).what 0 (out-Op op).regions + n ≡ (own_numbers (out-Op op).kind + numbers_in (out-Op op).what 0 (out-Op op).regions) + from = omega (arith, number) in e)
    ∙ ap (λ m. m + from) (sym (op_numbers-parts op))

-- ---- a list of ops, of which one is next

abbrev pub here : Around → List Op → ℕ → ℕ → List ℕ → Place
here a ops i n d = record { around = a; before = take i ops; number = n; defined = d }

next_sites : (f : Facts) (a : Around) (ops : List Op) (i : ℕ) (op : Op) (n : ℕ) (d : List ℕ) → i < length ops → op ≡ get_or ops i op →
    verdicts f (sites_of a (take i ops) n d (drop i ops)) ≡ verdicts f (op_sites (here a ops i n d) op) ++ verdicts f (sites_of a (take (i + 1) ops) (op_numbers op + n) (d ++ own_defined n (out-Op op).kind) (drop (i + 1) ops))
next_sites f a ops i op n d within is =
    ap (λ l. verdicts f (sites_of a (take i ops) n d l)) (front ops i op within is)
    ∙ map-append (verdict f) (op_sites (here a ops i n d) op) (sites_of a (take i ops ++ op ∷ []) (op_numbers op + n) (d ++ own_defined n (out-Op op).kind) (drop (i + 1) ops))
    ∙ ap (λ l. verdicts f (op_sites (here a ops i n d) op) ++ verdicts f (sites_of a l (op_numbers op + n) (d ++ own_defined n (out-Op op).kind) (drop (i + 1) ops))) (sym (before_next ops i op within is))

pub next_judged : (f : Facts) (a : Around) (ops : List Op) (i : ℕ) (op : Op) (n n' p q : ℕ) (d d' : List ℕ) → i < length ops → op ≡ get_or ops i op → judged p (verdicts f (op_sites (here a ops i n d) op)) ≡ Ok q →
    n' ≡ op_numbers op + n → d' ≡ d ++ own_defined n (out-Op op).kind →
    judged p (verdicts f (sites_of a (take i ops) n d (drop i ops))) ≡ judged q (verdicts f (sites_of a (take (i + 1) ops) n' d' (drop (i + 1) ops)))
next_judged f a ops i op n n' p q d d' within is passed number defined =
    ap (judged p) (next_sites f a ops i op n d within is)
    ∙ continued p q (verdicts f (op_sites (here a ops i n d) op)) (verdicts f (sites_of a (take (i + 1) ops) (op_numbers op + n) (d ++ own_defined n (out-Op op).kind) (drop (i + 1) ops))) passed
    ∙ ap (λ m. judged q (verdicts f (sites_of a (take (i + 1) ops) m (d ++ own_defined n (out-Op op).kind) (drop (i + 1) ops)))) (sym number)
    ∙ ap (λ l. judged q (verdicts f (sites_of a (take (i + 1) ops) n' l (drop (i + 1) ops)))) (sym defined)

-- an op where the walk stops, and one inside which it does
pub stops_at : (f : Facts) (a : Around) (ops : List Op) (i : ℕ) (op : Op) (n p at : ℕ) (d : List ℕ) (r : Result (Unit {0}) VerifyEnd) (e : VerifyEnd) (whole : Result ℕ VerifyEnd) → i < length ops → op ≡ get_or ops i op →
    whole ≡ judged p (verdicts f (sites_of a (take i ops) n d (drop i ops))) → IsErrAnd r (λ x. x ≡ e) → Told (Err e) at (judged p (verdicts f (op_sites (here a ops i n d) op))) → Told r at whole
stops_at f a ops i op n p at d r e whole within is so_far err t =
    let rest = verdicts f (sites_of a (take (i + 1) ops) (op_numbers op + n) (d ++ own_defined n (out-Op op).kind) (drop (i + 1) ops)) in
    handed_on r e at whole err
    (subst (Told (Err e) at) (sym (so_far ∙ ap (judged p) (next_sites f a ops i op n d within is))) (told_first e at p (verdicts f (op_sites (here a ops i n d) op)) rest t))

pub stops_first : (f : Facts) (place : Place) (op : Op) (p at : ℕ) (e : VerifyEnd) → Told (Err e) at (judged p (verdict f (record { place = place; op = op }) ∷ [])) → Told (Err e) at (judged p (verdicts f (op_sites place op)))
stops_first f place op p at e t =
    subst (Told (Err e) at) (ap (λ ss. judged p (verdicts f ss)) (sym (op_sites-parts place op)))
    (told_first e at p (verdict f (record { place = place; op = op }) ∷ []) (verdicts f (sites_in place.around (out-Op op).what 0 (own_numbers (out-Op op).kind + place.number) place.defined (out-Op op).regions)) t)

pub next_numbered : (ops : List Op) (i : ℕ) (op : Op) (n n' : ℕ) → i < length ops → op ≡ get_or ops i op → n' ≡ op_numbers op + n → numbers_of (drop i ops) + n ≡ numbers_of (drop (i + 1) ops) + n'
next_numbered ops i op n n' within is number = ap (λ l. numbers_of l + n) (front ops i op within is) ∙ (let e : (op_numbers op + numbers_of (drop (i + 1) ops)) + n ≡ numbers_of (drop (i + 1) ops) + n' = omega (arith, number) in e)

-- ---- the regions of an op, of which one is next

abbrev pub region_sites : Around → What → ℕ → ℕ → List ℕ → List Op → List Site
region_sites a w k n d ops = sites_of (around_in a w k) [] (length (names_in w k) + n) (d ++ from_number n (names_in w k)) ops

next_region : (f : Facts) (a : Around) (w : What) (regions : List Region) (k : ℕ) (region : Region) (n : ℕ) (d : List ℕ) → k < length regions → region ≡ get_or regions k region →
    verdicts f (sites_in a w k n d (drop k regions)) ≡
    verdicts f (region_sites a w k n d (out-Region region).ops) ++ verdicts f (sites_in a w (k + 1) ((length (names_in w k) + numbers_of (out-Region region).ops) + n) d (drop (k + 1) regions))
next_region f a w regions k region n d within is =
    ap (λ l. verdicts f (sites_in a w k n d l)) (front regions k region within is)
    ∙ map-append (verdict f) (region_sites a w k n d (out-Region region).ops) (sites_in a w (suc k) ((length (names_in w k) + numbers_of (out-Region region).ops) + n) d (drop (k + 1) regions))
    ∙ ap (λ m. verdicts f (region_sites a w k n d (out-Region region).ops) ++ verdicts f (sites_in a w m ((length (names_in w k) + numbers_of (out-Region region).ops) + n) d (drop (k + 1) regions))) (sym (add-one k))

pub region_judged : (f : Facts) (a : Around) (w : What) (regions : List Region) (k : ℕ) (region : Region) (n n' p q : ℕ) (d : List ℕ) → k < length regions → region ≡ get_or regions k region →
    judged p (verdicts f (region_sites a w k n d (out-Region region).ops)) ≡ Ok q → n' ≡ (length (names_in w k) + numbers_of (out-Region region).ops) + n →
    judged p (verdicts f (sites_in a w k n d (drop k regions))) ≡ judged q (verdicts f (sites_in a w (k + 1) n' d (drop (k + 1) regions)))
region_judged f a w regions k region n n' p q d within is passed number =
    ap (judged p) (next_region f a w regions k region n d within is)
    ∙ continued p q (verdicts f (region_sites a w k n d (out-Region region).ops)) (verdicts f (sites_in a w (k + 1) ((length (names_in w k) + numbers_of (out-Region region).ops) + n) d (drop (k + 1) regions))) passed
    ∙ ap (λ m. judged q (verdicts f (sites_in a w (k + 1) m d (drop (k + 1) regions)))) (sym number)

pub stops_in : (f : Facts) (a : Around) (w : What) (regions : List Region) (k : ℕ) (region : Region) (n p at : ℕ) (d : List ℕ) (r : Result (Unit {0}) VerifyEnd) (e : VerifyEnd) (whole : Result ℕ VerifyEnd) → k < length regions →
    region ≡ get_or regions k region → whole ≡ judged p (verdicts f (sites_in a w k n d (drop k regions))) → IsErrAnd r (λ x. x ≡ e) → Told (Err e) at (judged p (verdicts f (region_sites a w k n d (out-Region region).ops))) → Told r at whole
stops_in f a w regions k region n p at d r e whole within is so_far err t =
    let rest = verdicts f (sites_in a w (k + 1) ((length (names_in w k) + numbers_of (out-Region region).ops) + n) d (drop (k + 1) regions)) in
    handed_on r e at whole err
    (subst (Told (Err e) at) (sym (so_far ∙ ap (judged p) (next_region f a w regions k region n d within is))) (told_first e at p (verdicts f (region_sites a w k n d (out-Region region).ops)) rest t))

pub region_numbered : (w : What) (regions : List Region) (k : ℕ) (region : Region) (n n' : ℕ) → k < length regions → region ≡ get_or regions k region → n' ≡ (length (names_in w k) + numbers_of (out-Region region).ops) + n →
    numbers_in w k (drop k regions) + n ≡ numbers_in w (k + 1) (drop (k + 1) regions) + n'
region_numbered w regions k region n n' within is number =
    ap (λ l. numbers_in w k l + n) (front regions k region within is)
    ∙ (let e : ((length (names_in w k) + numbers_of (out-Region region).ops) + numbers_in w (suc k) (drop (k + 1) regions)) + n ≡ numbers_in w (suc k) (drop (k + 1) regions) + n' = omega (arith, number) in e)
    ∙ ap (λ m. numbers_in w m (drop (k + 1) regions) + n') (sym (add-one k))
