-- The ops of one ALLOCATE, DEALLOCATE or READ, and declares, fit one after another.
use Rattle.std.proofs.Common.{◌≡◌, refl, sym, ap, ◌∙◌, subst, ℕ, suc, ◌+◌, ◌==◌, Bool, true, false, ◌||◌, List, [], ◌∷◌, ◌++◌, Option, Some, None, nat_lt, true≢false}
use Rattle.std.specs.Prelude.{⊤, not, ◌&&◌}
use Rattle.std.specs.List.{list_all}
use Rattle.ws_base.specs.declared.name.Name.{Name}
use Rattle.std.proofs.lemmas.Bool.{and_from, eq-eqb}
use Rattle.std.proofs.Math.Bool.{or-true}
use Rattle.hlfir_ops.specs.declared.kinds.ValueKind.{ValueKind}
use Rattle.hlfir_ops.specs.declared.what.What.{What}
use Rattle.hlfir_ops.specs.declared.what.What.TheVariants as what
use Rattle.hlfir_ops.specs.declared.op.ValueId.{ValueId}
use Rattle.hlfir_ops.specs.declared.op.Op.{Op, out-Op}
use Rattle.hlfir_ops.specs.declared.op.Region.{Region}
use Rattle.hlfir_ops.specs.Trees.{op_of}
use Rattle.hlfir_ops.specs.Numbers.{own_numbers, numbers_of}
use Rattle.hlfir_ops.specs.Rules.{holds_statements, lists_fit}
use Rattle.hlfir_ops.specs.RulesRegions.{last_of}
use Rattle.hlfir_ops.specs.RulesStatements.{is_statement, is_declare, declares, same_sort, is_also, is_like}
use Rattle.lower_values.specs.declared.names.Variable.{Variable}
use Rattle.lower_values.specs.Scopes.{Scope}
use Rattle.lower_values.specs.Lowerings.{Lowering, done, ◌>>=◌, scoped, in_turn, giving, regions_from, holding, statement_of}
use Rattle.lower_values.specs.References.{declare_of}
use Rattle.lower_assign.specs.Statements.{yielded, all_yielded, item, all_bounds, allocation, deallocation, reading}
use Rattle.lower_constructs.specs.Modules.{declaration}
use Rattle.place_laws.proofs.Printed.{all-append, parts-op_of}
use Rattle.place_laws.proofs.PlainSides.{plain-yielded, plain-all_yielded, plain-left_of, plain-all_bounds}
use Rattle.place_laws.proofs.Fitting.{Fits, AllEnter, enters-plain, fits-none, fits-append, fits-op, fits-by, fill-from, fits-done, fits-then, lists_fit-by}
use Rattle.kind_laws.proofs.Ends.{last_of-push}

-- ---- items

-- these ops end with one of this sort and line
pub record EndsLike (w : What) (line : ℕ) (ops : List Op) : Type 0 where
  pub last : Op
  pub is : last_of ops ≡ Some last
  pub sort : same_sort (out-Op last).what w ≡ true
  pub on : (out-Op last).line ≡ line

-- where the item is not the first one, such an op stands before it
abbrev pub IsAfter : Bool → What → ℕ → List Op → Type 0
IsAfter true w line before = EndsLike w line before
IsAfter false w line before = Unit {0}

-- an op of this sort for each item, which holds value ops alone
pub record AreItems {A : Type 0} (f : Bool → A → Lowering ⊤) (w : Bool → What) (line : ℕ) : Type 0 where
  pub operands : A → Scope → List ValueId
  pub parts : A → List (Lowering ⊤)
  pub ops : (also : Bool) (x : A) (s : Scope) (n : ℕ) → (f also x s n).ops ≡ holding (w also) line (operands x s) None (parts x) s n ∷ []
  pub enter : (x : A) → AllEnter (parts x)
  pub holds : (also : Bool) (regions : List Region) → holds_statements (w also) regions ≡ true
  pub sort : (also : Bool) → is_statement (w also) ≡ true
  pub same : (also other : Bool) → same_sort (w also) (w other) ≡ true
  pub also : (also : Bool) → is_also (w also) ≡ also

where-so : (b good : Bool) → (b ≡ true → good ≡ true) → (not b || good) ≡ true
where-so true good h = h refl
where-so false good h = refl

after-one : (also : Bool) (w : What) (line : ℕ) (before : List Op) → also ≡ true → IsAfter also w line before → EndsLike w line before
after-one true w line before late h = h
after-one false w line before late h = absurd (true≢false (sym late))

module _ {A : Type 0} (f : Bool → A → Lowering ⊤) (w : Bool → What) (line : ℕ) (items : AreItems f w line) where
  module _ (own : Bool) (before : List Op) (also : Bool) (operands : List ValueId) (regions : List Region) where
    abbrev one_op : Op
    one_op = op_of (w also) line operands None regions

    like-last : (last : Op) → same_sort (out-Op last).what (w also) ≡ true → (out-Op last).line ≡ line → is_like (Some last) one_op ≡ true
    like-last last sort same =
        ap (λ g. same_sort (out-Op last).what g.what && (out-Op last).line == g.line) (parts-op_of (w also) line operands None regions)
        ∙ and_from (same_sort (out-Op last).what (w also)) ((out-Op last).line == line) sort (eq-eqb (out-Op last).line line same)

    follows-like : IsAfter also (w also) line before → (not also || is_like (last_of before) one_op) ≡ true
    follows-like h = where-so also (is_like (last_of before) one_op) (λ late. let g = after-one also (w also) line before late h in ap (λ o. is_like o one_op) g.is ∙ like-last g.last g.sort g.on)

    item-fits : IsAfter also (w also) line before → lists_fit own before one_op ≡ true
    item-fits h =
        fits-by own before (w also) line operands None regions (items.holds also regions) (ap (λ b. not own || b) (items.sort also) ∙ or-true (not own))
        (ap (λ b. not b || is_like (last_of before) one_op) (items.also also) ∙ follows-like h)

  ends-like : (before : List Op) (also other : Bool) (operands : List ValueId) (regions : List Region) → EndsLike (w other) line (before ++ op_of (w also) line operands None regions ∷ [])
  ends-like before also other operands regions =
      let op = op_of (w also) line operands None regions in
      let parts = parts-op_of (w also) line operands None regions in
      record { last = op; is = last_of-push before op; sort = ap (λ g. same_sort g.what (w other)) parts ∙ items.same also other; on = ap (λ g. g.line) parts }

  after-first : (late : Bool) (before : List Op) (also : Bool) (operands : List ValueId) (regions : List Region) → IsAfter late (w late) line (before ++ op_of (w also) line operands None regions ∷ [])
  after-first true before also operands regions = ends-like before also true operands regions
  after-first false before also operands regions = tt

  pub items-fit : (own : Bool) (k : ℕ) (xs : List A) (s : Scope) (n : ℕ) (before : List Op) → IsAfter (nat_lt 0 k) (w (nat_lt 0 k)) line before → Fits own before (in_turn (λ j. f (nat_lt 0 j)) k xs s n).ops
  unfolding in_turn
  items-fit own k [] s n before h = fits-done own tt s n before
  items-fit own k (x ∷ xs) s n before h =
      let also = nat_lt 0 k in
      let operands = items.operands x s in
      let regions = regions_from (w also) line 0 (n + own_numbers None) (items.parts x) s in
      let here = items.ops also x s n in
      fits-then own (f also x) (λ _. in_turn (λ j. f (nat_lt 0 j)) (suc k) xs) s n before
      (subst (Fits own before) (sym here) (fits-op own before (w also) line operands None regions (item-fits own before also operands regions h) (fill-from (w also) line 0 (n + own_numbers None) (items.parts x) s (items.enter x))))
      (subst (λ (l : List Op). Fits own (before ++ l) (in_turn (λ j. f (nat_lt 0 j)) (suc k) xs s (n + numbers_of (f also x s n).ops)).ops) (sym here)
      (items-fit own (suc k) xs s (n + numbers_of (f also x s n).ops) (before ++ op_of (w also) line operands None regions ∷ []) (after-first (nat_lt 0 (suc k)) before also operands regions)))

-- ---- ALLOCATE, DEALLOCATE and READ

pub allocations : (line : ℕ) → AreItems (allocation line) what.Allocmem line
unfolding allocation scoped statement_of
allocations line = record {
  operands = λ p s. (declare_of s.names p.name).value ∷ [];
  parts = λ p. all_yielded (all_bounds p.shape) ∷ [];
  ops = λ also p s n. refl;
  enter = λ p. (enters-plain (all_yielded (all_bounds p.shape)) (plain-all_yielded (all_bounds p.shape) (plain-all_bounds p.shape)), tt);
  holds = λ also regions. refl;
  sort = λ also. refl;
  same = λ also other. refl;
  also = λ also. refl;
}

pub deallocations : (line : ℕ) → AreItems (deallocation line) what.Freemem line
unfolding deallocation scoped statement_of
deallocations line = record {
  operands = λ x s. (declare_of s.names x).value ∷ [];
  parts = λ x. [];
  ops = λ also x s n. refl;
  enter = λ x. tt;
  holds = λ also regions. refl;
  sort = λ also. refl;
  same = λ also other. refl;
  also = λ also. refl;
}

pub readings : (line : ℕ) → AreItems (reading line) what.Read line
unfolding reading statement_of
readings line = record {
  operands = λ e s. [];
  parts = λ e. yielded (item e) ∷ [];
  ops = λ also e s n. refl;
  enter = λ e. (enters-plain (yielded (item e)) (plain-yielded (item e) (plain-left_of true e)), tt);
  holds = λ also regions. refl;
  sort = λ also. refl;
  same = λ also other. refl;
  also = λ also. refl;
}

-- ---- declares

abbrev AllDeclares : List Op → Type 0
AllDeclares ops = list_all declares ops ≡ true

declare-fits : (before : List Op) (name : Name) (line : ℕ) (kind : Option ValueKind) → AllDeclares before → lists_fit true before (op_of (what.Declare name) line [] kind []) ≡ true
declare-fits before name line kind h =
    let op = op_of (what.Declare name) line [] kind [] in
    let parts = parts-op_of (what.Declare name) line [] kind [] in
    lists_fit-by true before op (ap (λ f. holds_statements f.what f.regions) parts) (ap (λ f. is_statement f.what || (is_declare f.what && list_all declares before)) parts ∙ h)
    (ap (λ f. not (is_also f.what) || is_like (last_of before) op) parts)

pub declares-fit : (k : ℕ) (vs : List Variable) (s : Scope) (n : ℕ) (before : List Op) → AllDeclares before → Fits true before (in_turn declaration k vs s n).ops
unfolding in_turn declaration giving ◌>>=◌ done
declares-fit k [] s n before h = fits-none true before
declares-fit k (v ∷ vs) s n before h =
    let op = op_of (what.Declare v.name) s.line [] (Some v.declare.kind) [] in
    let rest = in_turn declaration (suc k) vs s (n + numbers_of (op ∷ [])) in
    fits-append true before (op ∷ []) rest.ops
    (fits-op true before (what.Declare v.name) s.line [] (Some v.declare.kind) [] (declare-fits before v.name s.line (Some v.declare.kind) h) (λ a w j m d. refl))
    (declares-fit (suc k) vs s (n + numbers_of (op ∷ [])) (before ++ op ∷ [])
    (all-append declares before (op ∷ []) h (and_from (declares op) true (ap (λ f. is_declare f.what) (parts-op_of (what.Declare v.name) s.line [] (Some v.declare.kind) [])) refl)))
