-- Ops at their places in a list: each stands where it may, and one with `also` follows one of its sort and line.
use Rattle.std.proofs.Common.{◌≡◌, refl, sym, ap, ◌∙◌, ℕ, suc, ◌+◌, Bool, true, false, ◌||◌, List, [], ◌∷◌, ◌++◌, length, Option, None, true≢false}
use Rattle.std.specs.Prelude.{⊤, not, ◌&&◌}
use Rattle.std.specs.List.{list_all}
use Rattle.std.proofs.lemmas.Bool.{and_from}
use Rattle.hlfir_ops.specs.declared.kinds.ValueKind.{ValueKind}
use Rattle.hlfir_ops.specs.declared.what.What.{What}
use Rattle.hlfir_ops.specs.declared.what.What.TheVariants as what
use Rattle.hlfir_ops.specs.declared.op.ValueId.{ValueId}
use Rattle.hlfir_ops.specs.declared.op.Op.{Op, out-Op}
use Rattle.hlfir_ops.specs.declared.op.Region.{Region, out-Region}
use Rattle.hlfir_ops.specs.Trees.{op_of, region_of}
use Rattle.hlfir_ops.specs.Numbers.{names_in, own_numbers, numbers_of}
use Rattle.hlfir_ops.specs.Rules.{holds_statements, lists_fit}
use Rattle.hlfir_ops.specs.RulesPlaces.{Around, Place, Site, around_in, from_number, op_sites, sites_of, sites_in}
use Rattle.hlfir_ops.specs.RulesRegions.{last_of}
use Rattle.hlfir_ops.specs.RulesStatements.{is_statement, is_declare, declares, is_also, is_like, follows, also_follows}
use Rattle.hlfir_ops.proofs.Sites.{op_sites-parts, sites_of-append, defined_by}
use Rattle.kind_laws.proofs.Ends.{ops-region_of}
use Rattle.lower_values.specs.Scopes.{Scope, inside}
use Rattle.lower_values.specs.Lowerings.{Lowering, done, ◌>>=◌, scoped, regions_from, holding, statement_of}
use Rattle.place_laws.proofs.Printed.{all-append, all_pass, parts-op_of, Everywhere}
use Rattle.place_laws.proofs.Plain.{is_plain, plain, Plain}

unfoldable pub fit : Site → Bool
fit s = lists_fit s.place.around.own s.place.before s.op

-- these ops fit after those before them, in the module's own list or in another one
abbrev pub Fits : Bool → List Op → List Op → Type 0
Fits own before ops = (a : Around) (n : ℕ) (d : List ℕ) → a.own ≡ own → list_all fit (sites_of a before n d ops) ≡ true

-- the ops of these regions fit in them
abbrev pub Fill : List Region → Type 0
Fill regions = (a : Around) (w : What) (k n : ℕ) (d : List ℕ) → list_all fit (sites_in a w k n d regions) ≡ true

-- ---- value ops fit anywhere

plain-holds : (w : What) (regions : List Region) → is_plain w ≡ true → (holds_statements w regions ≡ true) × (is_also w ≡ false)
plain-holds what.Workshare regions h = absurd (true≢false (sym h))
plain-holds what.DoLoop regions h = absurd (true≢false (sym h))
plain-holds (what.Allocmem also) regions h = absurd (true≢false (sym h))
plain-holds (what.Freemem also) regions h = absurd (true≢false (sym h))
plain-holds (what.Read also) regions h = absurd (true≢false (sym h))
plain-holds w regions h = (refl, refl)

-- an op that stands where it may by its sort
pub lists_fit-by : (own : Bool) (before : List Op) (op : Op) → holds_statements (out-Op op).what (out-Op op).regions ≡ true → (not own || follows before op) ≡ true → also_follows before op ≡ true → lists_fit own before op ≡ true
unfolding lists_fit
lists_fit-by own before op h g k =
    let first = and_from (holds_statements (out-Op op).what (out-Op op).regions) (not own || follows before op) h g in
    and_from (holds_statements (out-Op op).what (out-Op op).regions && (not own || follows before op)) (also_follows before op) first k

plain_site : (s : Site) → s.place.around.own ≡ false → plain s.op ≡ true → fit s ≡ true
unfolding fit
plain_site s own h =
    let facts = plain-holds (out-Op s.op).what (out-Op s.op).regions h in
    lists_fit-by s.place.around.own s.place.before s.op facts.0 (ap (λ b. not b || follows s.place.before s.op) own) (ap (λ b. not b || is_like (last_of s.place.before) s.op) facts.1)

pub fits-plain : (before : List Op) (ops : List Op) → Everywhere plain ops → Fits false before ops
fits-plain before ops h a n d own = all_pass (λ a. a.own ≡ false) (λ a w k. refl) fit plain plain_site a before n d ops own h

-- ---- lists

pub fits-none : (own : Bool) (before : List Op) → Fits own before []
fits-none own before a n d is = refl

pub fits-append : (own : Bool) (before xs ys : List Op) → Fits own before xs → Fits own (before ++ xs) ys → Fits own before (xs ++ ys)
fits-append own before xs ys h g a n d is =
    ap (list_all fit) (sites_of-append a before n d xs ys)
    ∙ all-append fit (sites_of a before n d xs) (sites_of a (before ++ xs) (numbers_of xs + n) (d ++ defined_by n xs) ys) (h a n d is) (g a (numbers_of xs + n) (d ++ defined_by n xs) is)

pub fill-region : (ops : List Op) (regions : List Region) → Fits false [] ops → Fill regions → Fill (region_of ops ∷ regions)
fill-region ops regions h g a w k n d =
    let here = λ (l : List Op). sites_of (around_in a w k) [] (length (names_in w k) + n) (d ++ from_number n (names_in w k)) l in
    let rest = sites_in a w (suc k) ((length (names_in w k) + numbers_of (out-Region (region_of ops)).ops) + n) d regions in
    all-append fit (here (out-Region (region_of ops)).ops) rest
    (ap (λ l. list_all fit (here l)) (ops-region_of ops) ∙ h (around_in a w k) (length (names_in w k) + n) (d ++ from_number n (names_in w k)) refl)
    (g a w (suc k) ((length (names_in w k) + numbers_of (out-Region (region_of ops)).ops) + n) d)

module _ (own : Bool) (before : List Op) (w : What) (line : ℕ) (operands : List ValueId) (kind : Option ValueKind) (regions : List Region) where
  pub fits-op : lists_fit own before (op_of w line operands kind regions) ≡ true → Fill regions → Fits own before (op_of w line operands kind regions ∷ [])
  unfolding fit
  fits-op h g a n d is =
      let op = op_of w line operands kind regions in
      let p : Place = record { around = a; before = before; number = n; defined = d } in
      let inner = λ (l : List Region) (v : What) (k : Option ValueKind). sites_in a v 0 (own_numbers k + n) d l in
      let site : Site = record { place = p; op = op } in
      let parts = op_sites-parts p op ∙ ap (λ f. site ∷ inner f.regions f.what f.kind) (parts-op_of w line operands kind regions) in
      all-append fit (op_sites p op) []
      (ap (list_all fit) parts ∙ and_from (fit site) (list_all fit (inner regions w kind)) (ap (λ b. lists_fit b before op) is ∙ h) (g a w 0 (own_numbers kind + n) d))
      refl

  follows-by : (b : Bool) → (not own || b) ≡ true → (c : Bool) → (not own || (b || c)) ≡ true
  follows-by true h c = elim own as (λ o. (not o || true) ≡ true) [ true ↦ refl | false ↦ refl ]
  follows-by false h c = elim own as (λ o. (not o || false) ≡ true → (not o || c) ≡ true) [ true ↦ λ g. absurd (true≢false (sym g)) | false ↦ λ g. refl ] h

  -- a statement, or an op that stands in other lists alone
  pub fits-by : holds_statements w regions ≡ true → (not own || is_statement w) ≡ true → (not (is_also w) || is_like (last_of before) (op_of w line operands kind regions)) ≡ true →
      lists_fit own before (op_of w line operands kind regions) ≡ true
  fits-by h g k =
      let op = op_of w line operands kind regions in
      let parts = parts-op_of w line operands kind regions in
      lists_fit-by own before op (ap (λ f. holds_statements f.what f.regions) parts ∙ h)
      (ap (λ f. not own || (is_statement f.what || (is_declare f.what && list_all declares before))) parts ∙ follows-by (is_statement w) g (is_declare w && list_all declares before))
      (ap (λ f. not (is_also f.what) || is_like (last_of before) op) parts ∙ k)

-- ---- lowerings

abbrev pub FitsAt : {A : Type 0} → Bool → List Op → Lowering A → Type 0
FitsAt own before p = (s : Scope) (n : ℕ) → Fits own before (p s n).ops

-- the lowering of a region
abbrev pub Enters : Lowering ⊤ → Type 0
Enters p = FitsAt false [] p

pub enters-plain : (p : Lowering ⊤) → Plain p → Enters p
enters-plain p h s n = fits-plain [] (p s n).ops (h s n)

abbrev pub AllEnter : List (Lowering ⊤) → Type 0
AllEnter [] = Unit {0}
AllEnter (p ∷ ps) = Enters p × AllEnter ps

pub fill-from : (w : What) (line k n : ℕ) (ps : List (Lowering ⊤)) (s : Scope) → AllEnter ps → Fill (regions_from w line k n ps s)
fill-from w line k n [] s h = λ a v j m d. refl
fill-from w line k n (p ∷ ps) s h =
    let ops = (p (inside w line k n s) (n + length (names_in w k))).ops in
    fill-region ops (regions_from w line (suc k) (n + (length (names_in w k) + numbers_of ops)) ps s) (h.0 (inside w line k n s) (n + length (names_in w k)))
    (fill-from w line (suc k) (n + (length (names_in w k) + numbers_of ops)) ps s h.1)

pub fits-then : {A B : Type 0} (own : Bool) (p : Lowering A) (q : A → Lowering B) (s : Scope) (n : ℕ) (before : List Op) → Fits own before (p s n).ops →
    Fits own (before ++ (p s n).ops) (q (p s n).made s (n + numbers_of (p s n).ops)).ops → Fits own before ((p >>= q) s n).ops
unfolding ◌>>=◌
fits-then own p q s n before h g = fits-append own before (p s n).ops (q (p s n).made s (n + numbers_of (p s n).ops)).ops h g

pub fits-done : {A : Type 0} (own : Bool) (x : A) (s : Scope) (n : ℕ) (before : List Op) → Fits own before ((done x) s n).ops
unfolding done
fits-done own x s n before = fits-none own before

pub fits-scoped : {A : Type 0} (own : Bool) (f : Scope → Lowering A) (s : Scope) (n : ℕ) (before : List Op) → Fits own before (f s s n).ops → Fits own before (scoped f s n).ops
unfolding scoped
fits-scoped own f s n before h = h

pub fits-statement : (own : Bool) (before : List Op) (w : What) (line : ℕ) (operands : List ValueId) (ps : List (Lowering ⊤)) (s : Scope) (n : ℕ) →
    lists_fit own before (holding w line operands None ps s n) ≡ true → AllEnter ps → Fits own before (statement_of w line operands ps s n).ops
unfolding statement_of
fits-statement own before w line operands ps s n h g =
    let regions = regions_from w line 0 (n + own_numbers None) ps s in fits-op own before w line operands None regions h (fill-from w line 0 (n + own_numbers None) ps s g)
