-- The table of what gives values.
use Rattle.std.proofs.Common.{◌≡◌, refl, ap, sym, ◌∙◌, ℕ, zero, suc, ◌+◌, ◌<◌, ◌≤◌, List, [], ◌∷◌, ◌++◌, map, length, drop, get_or, Option, append_assoc, add-one}
use Rattle.std.specs.Prelude.{slice_get}
use Rattle.std.specs.Borrow.{Bor}
use Rattle.std.proofs.lemmas.List.{map-append, append-nil, drop_more}
use Rattle.hlfir_ops.specs.declared.what.What.{What}
use Rattle.hlfir_ops.specs.declared.op.Op.{Op, out-Op, roll-Op, roll-out-Op}
use Rattle.hlfir_ops.specs.declared.op.Region.{Region, out-Region, roll-Region, roll-out-Region}
use Rattle.hlfir_ops.specs.declared.op.Op.TheBlock.{hidden-the_row-Region-0, hidden-the_row-Op-1}
use Rattle.hlfir_ops.specs.Opened.{trees_open}
use Rattle.hlfir_ops.specs.Numbers.{names_in}
use Rattle.alias_test.specs.Givers.{own_givers, op_givers, regions_givers, ops_givers, givers_of, givers_in, ops_at, op_at}

pub ruleset push_rules = (map-append, append-nil)

pub slice_get-ops_at : (rs : List (Bor Op)) (n : ℕ) → op_at (slice_get rs n) ≡ slice_get (ops_at rs) n
slice_get-ops_at [] n = refl
slice_get-ops_at (r ∷ rs) zero = refl
slice_get-ops_at (r ∷ rs) (suc n) = slice_get-ops_at rs n

-- ---- the givers of an op by its parts

ops_givers-list : (ops : List Op) → ops_givers (hidden-the_row-Op-1 ops) ≡ givers_of ops
unfolding trees_open
ops_givers-list [] = refl
ops_givers-list (op ∷ ops) = ap (λ l. op_givers op ++ l) (ops_givers-list ops)

regions_front : (op : Op) (w : What) (k : ℕ) (region : Region) (regions : List Region) → regions_givers op w k (hidden-the_row-Region-0 (roll-Region (out-Region region) ∷ regions)) ≡
    (map (λ name. op) (names_in w k) ++ ops_givers (hidden-the_row-Op-1 (out-Region region).ops)) ++ regions_givers op w (suc k) (hidden-the_row-Region-0 regions)
unfolding trees_open
regions_front op w k region regions = refl

regions_givers-list : (op : Op) (w : What) (k : ℕ) (regions : List Region) → regions_givers op w k (hidden-the_row-Region-0 regions) ≡ givers_in op w k regions
unfolding trees_open
regions_givers-list op w k [] = refl
regions_givers-list op w k (region ∷ regions) =
    ap (λ r. regions_givers op w k (hidden-the_row-Region-0 (r ∷ regions))) (sym (roll-out-Region region))
    ∙ (regions_front op w k region regions
    ∙ (ap (λ l. (map (λ name. op) (names_in w k) ++ l) ++ regions_givers op w (suc k) (hidden-the_row-Region-0 regions)) (ops_givers-list (out-Region region).ops)
    ∙ ap (λ l. (map (λ name. op) (names_in w k) ++ givers_of (out-Region region).ops) ++ l) (regions_givers-list op w (suc k) regions)))

op_front : (op : Op) → op_givers (roll-Op (out-Op op)) ≡ own_givers (roll-Op (out-Op op)) (out-Op op).kind ++ regions_givers (roll-Op (out-Op op)) (out-Op op).what 0 (hidden-the_row-Region-0 (out-Op op).regions)
unfolding trees_open
op_front op = refl

pub op_givers-parts : (op : Op) → op_givers op ≡ own_givers op (out-Op op).kind ++ givers_in op (out-Op op).what 0 (out-Op op).regions
op_givers-parts op =
    ap op_givers (sym (roll-out-Op op))
    ∙ (op_front op
    ∙ (ap (λ o. own_givers o (out-Op op).kind ++ regions_givers o (out-Op op).what 0 (hidden-the_row-Region-0 (out-Op op).regions)) (roll-out-Op op)
    ∙ ap (λ l. own_givers op (out-Op op).kind ++ l) (regions_givers-list op (out-Op op).what 0 (out-Op op).regions)))

-- ---- loops that add them

-- the items from the i-th on
front : {X : Type 0} (xs : List X) (i : ℕ) (x : X) → i < length xs → x ≡ get_or xs i x → drop i xs ≡ x ∷ drop (i + 1) xs
front xs i x within is = drop_more xs i x within ∙ ap (λ y. y ∷ drop (i + 1) xs) (sym is)

pub next_givers : (ops : List Op) (i : ℕ) (op : Op) (regions : List Region) (old own now : List Op) → i < length ops → op ≡ get_or ops i op → regions ≡ (out-Op op).regions →
    own ≡ old ++ own_givers op (out-Op op).kind → now ≡ own ++ givers_in op (out-Op op).what 0 regions → old ++ givers_of (drop i ops) ≡ now ++ givers_of (drop (i + 1) ops)
next_givers ops i op regions old own now within is same one more =
    let whole : now ≡ old ++ op_givers op =
    more
    ∙ (ap (λ rs. own ++ givers_in op (out-Op op).what 0 rs) same
    ∙ (ap (λ l. l ++ givers_in op (out-Op op).what 0 (out-Op op).regions) one
    ∙ (append_assoc old (own_givers op (out-Op op).kind) (givers_in op (out-Op op).what 0 (out-Op op).regions) ∙ ap (λ l. old ++ l) (sym (op_givers-parts op))))) in
    ap (λ l. old ++ givers_of l) (front ops i op within is) ∙ (sym (append_assoc old (op_givers op) (givers_of (drop (i + 1) ops))) ∙ ap (λ l. l ++ givers_of (drop (i + 1) ops)) (sym whole))

pub next_region : (op : Op) (w : What) (regions : List Region) (k : ℕ) (region : Region) (ops : List Op) (old named now : List Op) → k < length regions → region ≡ get_or regions k region → ops ≡ (out-Region region).ops →
    named ≡ old ++ map (λ name. op) (names_in w k) → now ≡ named ++ givers_of ops → old ++ givers_in op w k (drop k regions) ≡ now ++ givers_in op w (k + 1) (drop (k + 1) regions)
next_region op w regions k region ops old named now within is same names more =
    let rest = givers_in op w (suc k) (drop (k + 1) regions) in
    let whole : now ≡ old ++ (map (λ name. op) (names_in w k) ++ givers_of (out-Region region).ops) =
    more ∙ (ap (λ l. named ++ givers_of l) same ∙ (ap (λ l. l ++ givers_of (out-Region region).ops) names ∙ append_assoc old (map (λ name. op) (names_in w k)) (givers_of (out-Region region).ops))) in
    ap (λ l. old ++ givers_in op w k l) (front regions k region within is)
    ∙ (sym (append_assoc old (map (λ name. op) (names_in w k) ++ givers_of (out-Region region).ops) rest) ∙ (ap (λ l. l ++ rest) (sym whole) ∙ ap (λ n. now ++ givers_in op w n (drop (k + 1) regions)) (sym (add-one k))))
