-- An op keeps the rules on yields, sides and declares wherever it stands, and so do the ops in its regions.
use Rattle.std.proofs.Common.{◌≡◌, refl, sym, ap, ◌∙◌, subst, ℕ, suc, ◌+◌, Bool, true, false, not, ◌&&◌, ◌||◌, List, [], ◌∷◌, ◌++◌, length, All, Option, true≢false}
use Rattle.std.specs.List.{list_all}
use Rattle.std.proofs.lemmas.List.Elements.{All-nil, All-cons, All-head, All-tail, All-append, All-same}
use Rattle.std.proofs.lemmas.Bool.{and_from, or_right}
use Rattle.hlfir_ops.specs.declared.kinds.ValueKind.{ValueKind}
use Rattle.hlfir_ops.specs.declared.what.What.{What}
use Rattle.hlfir_ops.specs.declared.what.What.TheVariants as what
use Rattle.hlfir_ops.specs.declared.op.ValueId.{ValueId}
use Rattle.hlfir_ops.specs.declared.op.Op.{Op, Op-F, out-Op, out-roll-Op}
use Rattle.hlfir_ops.specs.declared.op.Region.{Region, out-Region}
use Rattle.hlfir_ops.specs.Trees.{op_of}
use Rattle.hlfir_ops.specs.Numbers.{names_in, own_numbers, op_numbers, numbers_of}
use Rattle.hlfir_ops.specs.RulesValues.{Value}
use Rattle.hlfir_ops.specs.RulesPlaces.{Around, Place, Site, masks, around_in, from_number, own_defined, op_sites, sites_of, sites_in}
use Rattle.hlfir_ops.specs.RulesStatements.{is_declare, declares_first, may_take_allocatable, no_allocatable, yields_no_allocatable, regions_judged}
use Rattle.hlfir_ops.specs.Rules.{yields_of, sides_of, realloc_of, declares_fit}
use Rattle.hlfir_ops.proofs.Sites.{op_sites-parts}

-- ---- one op at its place

pub record Keeps (vs : List Value) (s : Site) : Type 0 where
  pub yields : yields_of vs (out-Op s.op).what (out-Op s.op).regions ≡ true
  pub sides : sides_of vs (out-Op s.op).what (out-Op s.op).regions ≡ true
  pub realloc : realloc_of s.place.around.masked vs (out-Op s.op).what (out-Op s.op).regions ≡ true
  pub declares : declares_fit s.place.around.own vs s.place.before s.op ≡ true

-- wherever it stands; the Bool says whether a where or forall is around it
abbrev pub IsRight : List Value → Bool → Op → Type 0
IsRight vs m op = (p : Place) → p.around.masked ≡ m → All (Keeps vs) (op_sites p op)

abbrev pub AreRight : List Value → Bool → List Op → Type 0
AreRight vs m ops = All (IsRight vs m) ops

abbrev pub AreRightIn : List Value → Bool → List Region → Type 0
AreRightIn vs m regions = All (λ r. AreRight vs m (out-Region r).ops) regions

-- ---- what is asked of an op by itself

pub record OwnRight (vs : List Value) (m : Bool) (w : What) (operands : List ValueId) (regions : List Region) : Type 0 where
  pub other : is_declare w ≡ false
  pub yields : yields_of vs w regions ≡ true
  pub sides : sides_of vs w regions ≡ true
  pub realloc : realloc_of m vs w regions ≡ true
  pub uses : (may_take_allocatable w || no_allocatable vs operands) ≡ true
  pub judged : list_all (yields_no_allocatable vs) (regions_judged w regions) ≡ true

not_first : (before : List Op) (w : What) → is_declare w ≡ false → declares_first before w ≡ true
not_first before (what.Declare name) h = absurd (true≢false h)
not_first before _ h = refl

module _ (vs : List Value) where
  keeps_by : (p : Place) (op : Op) (f : Op-F Op Region) → out-Op op ≡ f → OwnRight vs p.around.masked f.what f.operands f.regions → Keeps vs (record { place = p; op = op })
  unfolding declares_fit
  keeps_by p op f e h = record {
    yields = ap (λ g. yields_of vs g.what g.regions) e ∙ h.yields;
    sides = ap (λ g. sides_of vs g.what g.regions) e ∙ h.sides;
    realloc = ap (λ g. realloc_of p.around.masked vs g.what g.regions) e ∙ h.realloc;
    declares =
        ap (λ g. (not p.around.own || declares_first p.before g.what) && ((may_take_allocatable g.what || no_allocatable vs g.operands) && list_all (yields_no_allocatable vs) (regions_judged g.what g.regions))) e
        ∙ and_from _ _ (or_right (not p.around.own) _ (not_first p.before f.what h.other)) (and_from _ _ h.uses h.judged);
  }

  pub sites-right : (m : Bool) (ops : List Op) → AreRight vs m ops → (a : Around) → a.masked ≡ m → (before : List Op) (n : ℕ) (d : List ℕ) → All (Keeps vs) (sites_of a before n d ops)
  sites-right m [] h a is before n d = All-nil (Keeps vs)
  sites-right m (op ∷ ops) h a is before n d =
      All-append (Keeps vs) _ _ (All-head (IsRight vs m) op ops h (record { around = a; before = before; number = n; defined = d }) is)
      (sites-right m ops (All-tail (IsRight vs m) op ops h) a is (before ++ op ∷ []) (op_numbers op + n) (d ++ own_defined n (out-Op op).kind))

  inner_right : (w : What) (m : Bool) (regions : List Region) → AreRightIn vs (masks w || m) regions → (a : Around) → a.masked ≡ m → (k n : ℕ) (d : List ℕ) → All (Keeps vs) (sites_in a w k n d regions)
  inner_right w m [] h a is k n d = All-nil (Keeps vs)
  inner_right w m (r ∷ rs) h a is k n d =
      All-append (Keeps vs) _ _
      (sites-right (masks w || m) (out-Region r).ops (All-head (λ q. AreRight vs (masks w || m) (out-Region q).ops) r rs h) (around_in a w k) (ap (λ b. masks w || b) is) [] (length (names_in w k) + n) (d ++ from_number n (names_in w k)))
      (inner_right w m rs (All-tail (λ q. AreRight vs (masks w || m) (out-Region q).ops) r rs h) a is (suc k) ((length (names_in w k) + numbers_of (out-Region r).ops) + n) d)

  pub op-right : (m : Bool) (w : What) (line : ℕ) (operands : List ValueId) (kind : Option ValueKind) (regions : List Region) → OwnRight vs m w operands regions → AreRightIn vs (masks w || m) regions →
      IsRight vs m (op_of w line operands kind regions)
  op-right m w line operands kind regions h inner p is =
      let f : Op-F Op Region = record { what = w; line = line; operands = operands; kind = kind; regions = regions } in
      let op = op_of w line operands kind regions in
      let e : out-Op op ≡ f = out-roll-Op f in
      All-same (Keeps vs) _ _
      (op_sites-parts p op ∙ ap (λ g. let s : Site = record { place = p; op = op } in s ∷ sites_in p.around g.what 0 (own_numbers g.kind + p.number) p.defined g.regions) e)
      (All-cons (Keeps vs) (record { place = p; op = op }) (sites_in p.around w 0 (own_numbers kind + p.number) p.defined regions) (keeps_by p op f e (subst (λ b. OwnRight vs b w operands regions) (sym is) h))
      (inner_right w m regions inner p.around is 0 (own_numbers kind + p.number) p.defined))
