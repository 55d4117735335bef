-- Ops that keep the limits where they stand.
use Rattle.std.proofs.Common.{◌≡◌, refl, sym, ap, ◌∙◌, subst, ℕ, suc, ◌+◌, ◌≤◌, ◌&&◌, Bool, true, false, List, [], ◌∷◌, ◌++◌, length, map, Option, arith, if◌then◌else◌}
use Rattle.std.specs.List.{list_all}
use Rattle.std.proofs.lemmas.Bool.{and_from, false≢true}
use Rattle.std.proofs.lemmas.List.Folds.{list_all-append}
use Rattle.hlfir_ops.specs.declared.kinds.ValueKind.{ValueKind}
use Rattle.hlfir_ops.specs.declared.what.What.{What}
use Rattle.hlfir_ops.specs.declared.what.What.TheVariants as what
use Rattle.hlfir_ops.specs.declared.op.ValueId.{ValueId}
use Rattle.hlfir_ops.specs.declared.op.Op.{Op, Op-F, out-Op, out-roll-Op}
use Rattle.hlfir_ops.specs.declared.op.Region.{Region, out-roll-Region}
use Rattle.hlfir_ops.specs.Trees.{Ops, op_of, region_of}
use Rattle.hlfir_ops.specs.Numbers.{names_in, own_numbers, op_numbers, numbers_of}
use Rattle.hlfir_ops.specs.RulesValues.{Value}
use Rattle.hlfir_ops.specs.RulesPlaces.{Around, Place, Site, around_in, from_number, own_defined, op_sites, sites_of, sites_in}
use Rattle.hlfir_ops.specs.Rules.{own_limits, counts_fit, limits_fit}
use Rattle.hlfir_ops.proofs.Sites.{op_sites-parts, sites_of-append, defined_by, op_there, list_in_order}
use Rattle.limit_laws.proofs.Costs.{sum_of, weight, total, is_light, heavy}

module _ (vs : List Value) where
  abbrev pub fits_there : Site → Bool
  fits_there s = limits_fit s.place.around vs s.place.before s.op

  -- wherever these ops stand in such surroundings
  abbrev pub Passing : Around → List Op → Type 0
  Passing a ops = (before : List Op) (n : ℕ) (d : List ℕ) → list_all fits_there (sites_of a before n d ops) ≡ true

  abbrev pub RegionsPass : Around → What → ℕ → List Region → Type 0
  RegionsPass a w k rs = (n : ℕ) (d : List ℕ) → list_all fits_there (sites_in a w k n d rs) ≡ true

  -- ---- ops of expressions

  light_fits : (a : Around) (before : List Op) (w : What) (os : List ValueId) (k : Option ValueKind) (op : Op) → is_light w os ≡ true → (own_limits a.bodies before w os k && counts_fit a.masked a.shared vs w op) ≡ true
  light_fits a before (what.Declare name) os k op h = absurd (false≢true h)
  light_fits a before (what.Assign realloc) os k op h = absurd (false≢true h)
  light_fits a before what.Masked os k op h = absurd (false≢true h)
  light_fits a before what.Elsewhere os k op h = absurd (false≢true h)
  light_fits a before (what.Forall names) os k op h = absurd (false≢true h)
  light_fits a before what.ForallMask os k op h = absurd (false≢true h)
  light_fits a before what.Workshare os k op h = absurd (false≢true h)
  light_fits a before what.DoLoop os k op h = absurd (false≢true h)
  light_fits a before (what.Allocmem also) os k op h = absurd (false≢true h)
  light_fits a before (what.Freemem also) os k op h = absurd (false≢true h)
  light_fits a before (what.Read also) os k op h = absurd (false≢true h)
  light_fits a before what.Vector os k op h = and_from _ _ h refl
  light_fits a before _ os k op h = refl

  is_light_by : (b : Bool) → (if b then 0 else 1) ≤ 0 → b ≡ true
  is_light_by true h = refl
  is_light_by false h = absurd (omega arith)

  op_fits : (a : Around) (before : List Op) (op : Op) → weight heavy op ≤ 0 → limits_fit a vs before op ≡ true
  unfolding limits_fit
  op_fits a before op h = light_fits a before (out-Op op).what (out-Op op).operands (out-Op op).kind op (is_light_by (is_light (out-Op op).what (out-Op op).operands) h)

  sites_fit : (ss : List Site) → sum_of heavy (map op_there ss) ≤ 0 → list_all fits_there ss ≡ true
  sites_fit [] h = refl
  sites_fit (s ∷ ss) h = and_from _ _ (op_fits s.place.around s.place.before s.op (omega (arith, h))) (sites_fit ss (omega (arith, h)))

  pub passing-light : (a : Around) (ops : List Op) → total heavy ops ≤ 0 → Passing a ops
  passing-light a ops h before n d = sites_fit (sites_of a before n d ops) (subst (λ l. sum_of heavy l ≤ 0) (sym (list_in_order a before n d ops)) h)

  -- ---- one after another

  pub passing-none : (a : Around) → Passing a []
  passing-none a before n d = refl

  pub passing-append : (a : Around) (xs ys : List Op) → Passing a xs → Passing a ys → Passing a (xs ++ ys)
  passing-append a xs ys h g before n d =
      ap (list_all fits_there) (sites_of-append a before n d xs ys)
      ∙ (list_all-append fits_there (sites_of a before n d xs) (sites_of a (before ++ xs) (numbers_of xs + n) (d ++ defined_by n xs) ys)
      ∙ and_from _ _ (h before n d) (g (before ++ xs) (numbers_of xs + n) (d ++ defined_by n xs)))

  pub regions-none : (a : Around) (w : What) (k : ℕ) → RegionsPass a w k []
  regions-none a w k n d = refl

  pub regions-more : (a : Around) (w : What) (k : ℕ) (ops : List Op) (rs : List Region) → Passing (around_in a w k) ops → RegionsPass a w (suc k) rs → RegionsPass a w k (region_of ops ∷ rs)
  regions-more a w k ops rs h g n d =
      ap (λ r. list_all fits_there (sites_of (around_in a w k) [] (length (names_in w k) + n) (d ++ from_number n (names_in w k)) r.ops ++ sites_in a w (suc k) ((length (names_in w k) + numbers_of r.ops) + n) d rs)) (out-roll-Region (record { ops = ops }))
      ∙ (list_all-append fits_there (sites_of (around_in a w k) [] (length (names_in w k) + n) (d ++ from_number n (names_in w k)) ops) (sites_in a w (suc k) ((length (names_in w k) + numbers_of ops) + n) d rs)
      ∙ and_from _ _ (h [] (length (names_in w k) + n) (d ++ from_number n (names_in w k))) (g ((length (names_in w k) + numbers_of ops) + n) d))

  -- ---- an op by its fields

  module _ (a : Around) (w : What) (line : ℕ) (os : List ValueId) (k : Option ValueKind) (rs : List Region) where
    abbrev whole : Op-F Op Region
    whole = record { what = w; line = line; operands = os; kind = k; regions = rs }

    pub limits-op : (before : List Op) → limits_fit a vs before (op_of w line os k rs) ≡ (own_limits a.bodies before w os k && counts_fit a.masked a.shared vs w (op_of w line os k rs))
    unfolding limits_fit
    limits-op before = ap (λ f. own_limits a.bodies before f.what f.operands f.kind && counts_fit a.masked a.shared vs f.what (op_of w line os k rs)) (out-roll-Op whole)

    -- after these ops of its list
    pub passing-at : (before : List Op) → (own_limits a.bodies before w os k && counts_fit a.masked a.shared vs w (op_of w line os k rs)) ≡ true → RegionsPass a w 0 rs → (n : ℕ) (d : List ℕ) → list_all fits_there (sites_of a before n d (op_of w line os k rs ∷ [])) ≡ true
    passing-at before h g n d =
        let place : Place = record { around = a; before = before; number = n; defined = d } in
        let op = op_of w line os k rs in
        let rest = sites_of a (before ++ op ∷ []) (op_numbers op + n) (d ++ own_defined n (out-Op op).kind) [] in
        list_all-append fits_there (op_sites place op) rest
        ∙ and_from _ _
        (ap (list_all fits_there) (op_sites-parts place op ∙ ap (λ f. let s : Site = record { place = place; op = op } in s ∷ sites_in a f.what 0 (own_numbers f.kind + n) d f.regions) (out-roll-Op whole))
        ∙ and_from _ _ (limits-op before ∙ h) (g (own_numbers k + n) d))
        refl

    pub passing-op : ((before : List Op) → (own_limits a.bodies before w os k && counts_fit a.masked a.shared vs w (op_of w line os k rs)) ≡ true) → RegionsPass a w 0 rs → Passing a (op_of w line os k rs ∷ [])
    passing-op h g before n d = passing-at before (h before) g n d
