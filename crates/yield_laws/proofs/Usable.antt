-- Operands that any op may take, and the ops that take them.
use Rattle.std.proofs.Common.{◌≡◌, refl, sym, ap, ◌∙◌, ℕ, Bool, true, false, not, ◌&&◌, ◌||◌, nat_lt, List, [], ◌∷◌, ◌++◌, All, Option, Some, true≢false}
use Rattle.std.specs.List.{list_all}
use Rattle.std.proofs.lemmas.List.Elements.{All-nil, All-head, All-tail}
use Rattle.std.proofs.lemmas.List.Folds.{list_all-append}
use Rattle.std.proofs.lemmas.Bool.{and_from}
use Rattle.hlfir_ops.specs.declared.kinds.ValueKind.{ValueKind}
use Rattle.hlfir_ops.specs.declared.kinds.ValueKind.TheVariants.{Scalar, Place, Declared, Allocatable, Section, Array}
use Rattle.hlfir_ops.specs.declared.what.What.{What}
use Rattle.hlfir_ops.specs.declared.what.What.TheVariants as what
use Rattle.hlfir_ops.specs.declared.op.ValueId.{ValueId}
use Rattle.hlfir_ops.specs.declared.op.Op.{Op, Op-F, out-roll-Op}
use Rattle.hlfir_ops.specs.declared.op.Region.{Region, out-Region}
use Rattle.hlfir_ops.specs.Trees.{op_of}
use Rattle.hlfir_ops.specs.RulesValues.{Value, source_of, is_declares, is_allocatable, is_allocatable_declare, value_at}
use Rattle.hlfir_ops.specs.RulesPlaces.{masks}
use Rattle.hlfir_ops.specs.RulesRegions.{is_value_op, gives_value}
use Rattle.hlfir_ops.specs.RulesStatements.{is_declare, may_take_allocatable, no_allocatable, yields_no_allocatable, regions_judged}
use Rattle.hlfir_ops.specs.Rules.{yields_of, sides_of, realloc_of}
use Rattle.lower_values.specs.declared.operand.Operand.{Operand}
use Rattle.lower_values.specs.Operations.{values_of}
use Rattle.kind_laws.specs.Found.{Holds, Found}
use Rattle.yield_laws.proofs.Right.{IsRight, AreRight, op-right}
use Rattle.kind_laws.proofs.Finding.{own_value}

-- ---- kinds: an array has a rank above 0

abbrev pub is_solid : ValueKind → Bool
is_solid (Scalar e) = true
is_solid (Place e) = true
is_solid (Declared e shape) = nat_lt 0 shape.rank
is_solid (Allocatable e rank) = nat_lt 0 rank
is_solid (Section e rank) = nat_lt 0 rank
is_solid (Array e rank) = nat_lt 0 rank

-- found with its kind, no allocatable's declare, and of a rank above 0 where it is an array
pub record IsUsable (vs : List Value) (x : Operand) : Type 0 where
  pub found : Found vs x
  pub solid : is_solid x.kind ≡ true

-- ---- lists of operands without an allocatable's declare

abbrev pub IsReached : List Value → ValueId → Type 0
IsReached vs v = is_allocatable_declare (value_at vs v) ≡ false

pub usable-reached : {vs : List Value} {x : Operand} → IsUsable vs x → IsReached vs x.value
usable-reached h = ap is_allocatable_declare h.found.found ∙ h.found.reached

pub more-reached : (vs : List Value) (v : ValueId) (os : List ValueId) → IsReached vs v → no_allocatable vs os ≡ true → no_allocatable vs (v ∷ os) ≡ true
more-reached vs v os h g = and_from _ _ (ap not h) g

pub reached-append : (vs : List Value) (xs ys : List ValueId) → no_allocatable vs xs ≡ true → no_allocatable vs ys ≡ true → no_allocatable vs (xs ++ ys) ≡ true
reached-append vs xs ys h g = list_all-append (λ v. not (is_allocatable_declare (value_at vs v))) xs ys ∙ and_from _ _ h g

pub all-reached : (vs : List Value) (xs : List Operand) → All (IsUsable vs) xs → no_allocatable vs (values_of xs) ≡ true
all-reached vs [] h = refl
all-reached vs (x ∷ xs) h = more-reached vs x.value (values_of xs) (usable-reached (All-head (IsUsable vs) x xs h)) (all-reached vs xs (All-tail (IsUsable vs) x xs h))

-- ---- ops without regions, of which only their operands are judged

abbrev pub is_plain : What → Bool
is_plain (what.Declare name) = false
is_plain (what.Assign realloc) = false
is_plain what.Masked = false
is_plain what.Elsewhere = false
is_plain (what.Forall names) = false
is_plain what.ForallMask = false
is_plain what.DoLoop = false
is_plain (what.Allocmem also) = false
is_plain (what.Read also) = false
is_plain what.Elemental = false
is_plain _ = true

plain_other : (w : What) → is_plain w ≡ true → is_declare w ≡ false
plain_other (what.Declare name) h = absurd (true≢false (sym h))
plain_other _ h = refl

plain_yields : (vs : List Value) (w : What) → is_plain w ≡ true → yields_of vs w [] ≡ true
unfolding yields_of
plain_yields vs (what.Assign realloc) h = absurd (true≢false (sym h))
plain_yields vs what.Masked h = absurd (true≢false (sym h))
plain_yields vs what.Elsewhere h = absurd (true≢false (sym h))
plain_yields vs (what.Forall names) h = absurd (true≢false (sym h))
plain_yields vs what.ForallMask h = absurd (true≢false (sym h))
plain_yields vs what.DoLoop h = absurd (true≢false (sym h))
plain_yields vs (what.Allocmem also) h = absurd (true≢false (sym h))
plain_yields vs (what.Read also) h = absurd (true≢false (sym h))
plain_yields vs what.Elemental h = absurd (true≢false (sym h))
plain_yields vs _ h = refl

plain_sides : (vs : List Value) (w : What) → is_plain w ≡ true → sides_of vs w [] ≡ true
unfolding sides_of
plain_sides vs (what.Assign realloc) h = absurd (true≢false (sym h))
plain_sides vs _ h = refl

plain_realloc : (m : Bool) (vs : List Value) (w : What) → is_plain w ≡ true → realloc_of m vs w [] ≡ true
unfolding realloc_of
plain_realloc m vs (what.Assign realloc) h = absurd (true≢false (sym h))
plain_realloc m vs _ h = refl

plain_judged : (vs : List Value) (w : What) → is_plain w ≡ true → list_all (yields_no_allocatable vs) (regions_judged w []) ≡ true
plain_judged vs (what.Assign realloc) h = absurd (true≢false (sym h))
plain_judged vs _ h = refl

pub plain-right : (vs : List Value) (m : Bool) (w : What) (line : ℕ) (operands : List ValueId) (kind : Option ValueKind) → is_plain w ≡ true → (may_take_allocatable w || no_allocatable vs operands) ≡ true → IsRight vs m (op_of w line operands kind [])
plain-right vs m w line operands kind h uses =
    op-right vs m w line operands kind []
    (record {
      other = plain_other w h;
      yields = plain_yields vs w h;
      sides = plain_sides vs w h;
      realloc = plain_realloc m vs w h;
      uses = uses;
      judged = plain_judged vs w h;
    })
    (All-nil (λ r. AreRight vs (masks w || m) (out-Region r).ops))

-- ---- ops that give values

-- one that is right wherever it stands
abbrev pub IsValue : List Value → Op → Type 0
IsValue vs op = (gives_value op ≡ true) × ((m : Bool) → IsRight vs m op)

value_declares : (w : What) → is_value_op w ≡ true → is_declares (source_of w) ≡ false
value_declares (what.Declare name) h = absurd (true≢false (sym h))
value_declares _ h = refl

pub gives-value : (w : What) (line : ℕ) (operands : List ValueId) (kind : Option ValueKind) (regions : List Region) → is_value_op w ≡ true → gives_value (op_of w line operands kind regions) ≡ true
gives-value w line operands kind regions h = ap (λ (f : Op-F Op Region). is_value_op f.what) (out-roll-Op (record { what = w; line = line; operands = operands; kind = kind; regions = regions })) ∙ h

pub value-op : (vs : List Value) (w : What) (line : ℕ) (operands : List ValueId) (kind : Option ValueKind) → is_value_op w ≡ true → is_plain w ≡ true → (may_take_allocatable w || no_allocatable vs operands) ≡ true →
    IsValue vs (op_of w line operands kind [])
value-op vs w line operands kind g h uses = (gives-value w line operands kind [] g, λ m. plain-right vs m w line operands kind h uses)

-- what an op gives may be taken by any op
pub given-usable : (vs : List Value) (n : ℕ) (w : What) (line : ℕ) (operands : List ValueId) (kind : ValueKind) (regions : List Region) (ops : List Op) → is_value_op w ≡ true → is_solid kind ≡ true →
    Holds vs n (op_of w line operands (Some kind) regions ∷ ops) → IsUsable vs (record { value = record { number = n }; kind = kind })
given-usable vs n w line operands kind regions ops g solid h = record {
  found = record {
    value = record { kind = kind; source = source_of w };
    found = own_value vs _ w line operands kind regions ops h;
    kind = refl;
    reached = ap (λ b. b && is_allocatable (Some kind)) (value_declares w g);
  };
  solid = solid;
}
