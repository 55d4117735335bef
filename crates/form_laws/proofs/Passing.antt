-- Lists of ops of which each has its form, wherever the list stands.
use Rattle.std.proofs.Common.{◌≡◌, refl, sym, ap, ◌∙◌, subst, ℕ, suc, ◌+◌, Bool, true, ◌&&◌, ◌||◌, List, [], ◌∷◌, ◌++◌, length, Option}
use Rattle.std.proofs.lemmas.List.{append-nil}
use Rattle.std.proofs.lemmas.List.Folds.{list_all-append}
use Rattle.std.specs.List.{list_all}
use Rattle.std.proofs.lemmas.Bool.{and_from}
use Rattle.hlfir_ops.specs.declared.kinds.ValueKind.{ValueKind}
use Rattle.hlfir_ops.specs.declared.what.What.{What}
use Rattle.hlfir_ops.specs.declared.op.ValueId.{ValueId}
use Rattle.hlfir_ops.specs.declared.op.Op.{Op, Op-F, out-Op, out-roll-Op}
use Rattle.hlfir_ops.specs.declared.op.Region.{Region, out-Region, out-roll-Region}
use Rattle.hlfir_ops.specs.Trees.{op_of, region_of}
use Rattle.hlfir_ops.specs.Numbers.{names_in, own_numbers, numbers_of}
use Rattle.hlfir_ops.specs.RulesValues.{Value}
use Rattle.hlfir_ops.specs.RulesForms.{has_regions, is_filled_where, takes, gives}
use Rattle.hlfir_ops.specs.RulesPlaces.{Around, Place, Site, is_elemental, around_in, from_number, sites_of, sites_in}
use Rattle.hlfir_ops.specs.Rules.{operands_fit, result_fits}
use Rattle.hlfir_ops.proofs.Sites.{op_sites-parts, sites_of-append, defined_by}

module _ (vs : List Value) where
  -- whether an op has its form; the Bool says whether it stands in an elemental
  abbrev pub forms_fit : Bool → Op → Bool
  forms_fit e op = operands_fit e vs op && result_fits vs op

  abbrev pub site_fits : Site → Bool
  site_fits s = forms_fit s.place.around.elemental s.op

  -- each op in the list, and inside these
  pub record AreFit (e : Bool) (ops : List Op) : Type 0 where
    pub anywhere : (a : Around) (before : List Op) (n : ℕ) (defined : List ℕ) → a.elemental ≡ e → list_all site_fits (sites_of a before n defined ops) ≡ true

  abbrev pub AllFit : Bool → List Region → Type 0
  AllFit e [] = Unit {0}
  AllFit e (r ∷ rs) = AreFit e (out-Region r).ops × AllFit e rs

  pub fit-none : (e : Bool) → AreFit e []
  fit-none e = record { anywhere = λ a before n defined is. refl }

  pub fit-append : (e : Bool) (xs ys : List Op) → AreFit e xs → AreFit e ys → AreFit e (xs ++ ys)
  fit-append e xs ys h g = record {
    anywhere = λ a before n defined is.
        let rest = sites_of a (before ++ xs) (numbers_of xs + n) (defined ++ defined_by n xs) ys in
        ap (list_all site_fits) (sites_of-append a before n defined xs ys)
        ∙ (list_all-append site_fits (sites_of a before n defined xs) rest
        ∙ and_from (list_all site_fits (sites_of a before n defined xs)) (list_all site_fits rest) (h.anywhere a before n defined is) (g.anywhere a (before ++ xs) (numbers_of xs + n) (defined ++ defined_by n xs) is));
  }

  pub fit-region : (e : Bool) (ops : List Op) → AreFit e ops → AreFit e (out-Region (region_of ops)).ops
  fit-region e ops h = subst (λ r. AreFit e r.ops) (sym (out-roll-Region (record { ops = ops }))) h

  regions_fit : (e : Bool) (a : Around) (w : What) (k n : ℕ) (defined : List ℕ) (rs : List Region) → AllFit e rs → (is_elemental w || a.elemental) ≡ e → list_all site_fits (sites_in a w k n defined rs) ≡ true
  regions_fit e a w k n defined [] h is = refl
  regions_fit e a w k n defined (r ∷ rs) h is =
      let ops = (out-Region r).ops in
      let here = sites_of (around_in a w k) [] (length (names_in w k) + n) (defined ++ from_number n (names_in w k)) ops in
      let rest = sites_in a w (suc k) ((length (names_in w k) + numbers_of ops) + n) defined rs in
      list_all-append site_fits here rest
      ∙ and_from (list_all site_fits here) (list_all site_fits rest) (h.0.anywhere (around_in a w k) [] (length (names_in w k) + n) (defined ++ from_number n (names_in w k)) is)
      (regions_fit e a w (suc k) ((length (names_in w k) + numbers_of ops) + n) defined rs h.1 is)

  module _ (e : Bool) (w : What) (line : ℕ) (os : List ValueId) (kind : Option ValueKind) (rs : List Region) where
    -- the form of one op by its fields
    abbrev pub part_fits : Bool
    part_fits = (has_regions w (length rs) && is_filled_where w rs && takes e vs w os rs) && gives vs w os kind rs

    abbrev fields : Op-F Op Region
    fields = record { what = w; line = line; operands = os; kind = kind; regions = rs }

    abbrev test : Op-F Op Region → Bool
    test f = (has_regions f.what (length f.regions) && is_filled_where f.what f.regions && takes e vs f.what f.operands f.regions) && gives vs f.what f.operands f.kind f.regions

    op_fits : forms_fit e (op_of w line os kind rs) ≡ part_fits
    unfolding operands_fit result_fits
    op_fits = ap test (out-roll-Op fields)

    pub fit-op : part_fits ≡ true → AllFit (is_elemental w || e) rs → AreFit e (op_of w line os kind rs ∷ [])
    fit-op h g = record {
      anywhere = λ a before n defined is.
          let op = op_of w line os kind rs in
          let p : Place = record { around = a; before = before; number = n; defined = defined } in
          let inner : Op-F Op Region → Bool = λ f. list_all site_fits (sites_in a f.what 0 (own_numbers f.kind + n) defined f.regions) in
          ap (list_all site_fits) (append-nil _ ∙ op_sites-parts p op)
          ∙ and_from (forms_fit a.elemental op) (inner (out-Op op)) (ap (λ b. forms_fit b op) is ∙ (op_fits ∙ h))
          (ap inner (out-roll-Op fields) ∙ regions_fit (is_elemental w || e) a w 0 (own_numbers kind + n) defined rs g (ap (λ b. is_elemental w || b) is));
    }
