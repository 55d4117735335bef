-- The bodies of all statements of a lowered source hold what they may.
use Rattle.std.proofs.Common.{◌≡◌, refl, sym, ap, ◌∙◌, ℕ, suc, ◌+◌, Bool, true, false, not, ◌&&◌, List, [], ◌∷◌, Option, Some, None, nat_lt, true≢false}
use Rattle.std.specs.Prelude.{⊤}
use Rattle.std.proofs.lemmas.Bool.{and_from, and_parts}
use Rattle.ws_base.specs.declared.name.Name.{Name}
use Rattle.ws_tree.specs.declared.expr.Expr.{Expr}
use Rattle.ws_tree.specs.declared.stmt.Part.{Part}
use Rattle.hlfir_ops.specs.declared.kinds.ValueKind.{ValueKind}
use Rattle.hlfir_ops.specs.declared.what.What.{What}
use Rattle.hlfir_ops.specs.declared.what.What.TheVariants as what
use Rattle.hlfir_ops.specs.declared.op.ValueId.{ValueId}
use Rattle.hlfir_ops.specs.declared.op.Op.{Op, out-Op}
use Rattle.hlfir_ops.specs.declared.op.Region.{Region}
use Rattle.hlfir_ops.specs.Trees.{op_of}
use Rattle.hlfir_ops.specs.Numbers.{own_numbers, order_of}
use Rattle.hlfir_ops.specs.Rules.{where_of, forall_of}
use Rattle.hlfir_ops.specs.RulesValues.{Value}
use Rattle.lower_values.specs.declared.names.Variable.{Variable}
use Rattle.lower_values.specs.Lowerings.{Lowering, done, in_turn, giving, regions_from, statement_of}
use Rattle.lower_values.specs.References.{declare_of}
use Rattle.lower_values.specs.Values.{value}
use Rattle.lower_assign.specs.Statements.{yielded, all_yielded, left, item, is_whole_allocatable, assignment, all_bounds, allocation, deallocation, reading}
use Rattle.lower_constructs.specs.Modules.{forall_mask, declaration}
use Rattle.place_laws.proofs.Printed.{all-weaker, parts-op_of, Everywhere}
use Rattle.place_laws.proofs.Lowered.{Always, EachAlways, makes-done, makes-giving, makes-statement, regions-always, always-then, always-scoped}
use Rattle.place_laws.proofs.Plain.{is_plain, plain, Plain}
use Rattle.place_laws.proofs.PlainValues.{plain-value}
use Rattle.place_laws.proofs.PlainSides.{plain-yielded, plain-all_yielded, plain-left, plain-left_of, plain-all_bounds}

-- ---- one op

-- an op that holds no bodies that the rules on WHERE and FORALL judge
abbrev pub is_free : What → Bool
is_free what.Masked = false
is_free what.Elsewhere = false
is_free (what.Forall names) = false
is_free w = true

module _ (vs : List Value) where
  pub bodies : Op → Bool
  bodies op = where_of vs (out-Op op).what (out-Op op).regions && forall_of vs (out-Op op).what (out-Op op).regions

  pub where_part : (op : Op) → bodies op ≡ true → where_of vs (out-Op op).what (out-Op op).regions ≡ true
  unfolding bodies
  where_part op h = (and_parts (where_of vs (out-Op op).what (out-Op op).regions) (forall_of vs (out-Op op).what (out-Op op).regions) h).0

  pub forall_part : (op : Op) → bodies op ≡ true → forall_of vs (out-Op op).what (out-Op op).regions ≡ true
  unfolding bodies
  forall_part op h = (and_parts (where_of vs (out-Op op).what (out-Op op).regions) (forall_of vs (out-Op op).what (out-Op op).regions) h).1

  pub bodies-op : (w : What) (line : ℕ) (operands : List ValueId) (k : Option ValueKind) (regions : List Region) → where_of vs w regions ≡ true → forall_of vs w regions ≡ true → bodies (op_of w line operands k regions) ≡ true
  unfolding bodies
  bodies-op w line operands k regions h g = ap (λ f. where_of vs f.what f.regions && forall_of vs f.what f.regions) (parts-op_of w line operands k regions) ∙ and_from (where_of vs w regions) (forall_of vs w regions) h g

  free-where : (w : What) (regions : List Region) → is_free w ≡ true → where_of vs w regions ≡ true
  unfolding where_of
  free-where what.Masked regions h = absurd (true≢false (sym h))
  free-where what.Elsewhere regions h = absurd (true≢false (sym h))
  free-where w regions h = refl

  free-forall : (w : What) (regions : List Region) → is_free w ≡ true → forall_of vs w regions ≡ true
  unfolding forall_of
  free-forall (what.Forall names) regions h = absurd (true≢false (sym h))
  free-forall w regions h = refl

  plain-free : (w : What) → is_plain w ≡ true → is_free w ≡ true
  plain-free what.Masked h = h
  plain-free what.Elsewhere h = h
  plain-free (what.Forall names) h = h
  plain-free w h = refl

  pub free-op : (w : What) (line : ℕ) (operands : List ValueId) (k : Option ValueKind) (regions : List Region) → is_free w ≡ true → bodies (op_of w line operands k regions) ≡ true
  free-op w line operands k regions h = bodies-op w line operands k regions (free-where w regions h) (free-forall w regions h)

  plain-bodies : (op : Op) → plain op ≡ true → bodies op ≡ true
  unfolding bodies
  plain-bodies op h =
      let w = (out-Op op).what in
      let free = plain-free w h in
      and_from (where_of vs w (out-Op op).regions) (forall_of vs w (out-Op op).regions) (free-where w (out-Op op).regions free) (free-forall w (out-Op op).regions free)

  pub plains : (ops : List Op) → Everywhere plain ops → Everywhere bodies ops
  plains ops h = all-weaker plain bodies (order_of ops) plain-bodies h

  -- ---- statements that hold value ops alone

  pub free-plain : (p : Lowering ⊤) → Plain p → Always bodies p
  free-plain p h s n = plains (p s n).ops (h s n)

  free-statement : (w : What) (line : ℕ) (operands : List ValueId) (ps : List (Lowering ⊤)) → is_free w ≡ true → EachAlways bodies ps → Always bodies (statement_of w line operands ps)
  free-statement w line operands ps h each s n =
      let regions = regions_from w line 0 (n + own_numbers None) ps s in
      makes-statement bodies s n w line operands ps (free-op w line operands None regions h) (regions-always bodies w line 0 (n + own_numbers None) ps s each)

  free-value : (e : Expr) → Always bodies (yielded (value e))
  free-value e = free-plain (yielded (value e)) (plain-yielded (value e) (plain-value e))

  pub free-assignment : (line : ℕ) (l e : Expr) → Always bodies (assignment line l e)
  unfolding assignment
  free-assignment line l e =
      always-scoped bodies (λ s. statement_of (what.Assign (not s.masked && is_whole_allocatable s.names l)) line [] (yielded (value e) ∷ yielded (left l) ∷ []))
      (λ s. free-statement (what.Assign (not s.masked && is_whole_allocatable s.names l)) line [] (yielded (value e) ∷ yielded (left l) ∷ []) refl (free-value e, (free-plain (yielded (left l)) (plain-yielded (left l) (plain-left l)), tt)))

  free-allocation : (line : ℕ) (also : Bool) (p : Part) → Always bodies (allocation line also p)
  unfolding allocation
  free-allocation line also p =
      always-scoped bodies (λ s. statement_of (what.Allocmem also) line ((declare_of s.names p.name).value ∷ []) (all_yielded (all_bounds p.shape) ∷ []))
      (λ s. free-statement (what.Allocmem also) line ((declare_of s.names p.name).value ∷ []) (all_yielded (all_bounds p.shape) ∷ []) refl (free-plain (all_yielded (all_bounds p.shape)) (plain-all_yielded (all_bounds p.shape) (plain-all_bounds p.shape)), tt))

  free-deallocation : (line : ℕ) (also : Bool) (x : Name) → Always bodies (deallocation line also x)
  unfolding deallocation
  free-deallocation line also x =
      always-scoped bodies (λ s. statement_of (what.Freemem also) line ((declare_of s.names x).value ∷ []) []) (λ s. free-statement (what.Freemem also) line ((declare_of s.names x).value ∷ []) [] refl tt)

  free-reading : (line : ℕ) (also : Bool) (e : Expr) → Always bodies (reading line also e)
  unfolding reading
  free-reading line also e = free-statement (what.Read also) line [] (yielded (item e) ∷ []) refl (free-plain (yielded (item e)) (plain-yielded (item e) (plain-left_of true e)), tt)

  pub free-forall_mask : (mask : Option Expr) → Always bodies (forall_mask mask)
  unfolding forall_mask
  free-forall_mask None = λ s n. makes-done bodies s n tt
  free-forall_mask (Some e) = always-scoped bodies (λ s. statement_of what.ForallMask s.line [] (yielded (value e) ∷ [])) (λ s. free-statement what.ForallMask s.line [] (yielded (value e) ∷ []) refl (free-value e, tt))

  free-in_turn : {A : Type 0} (f : ℕ → A → Lowering ⊤) (k : ℕ) (xs : List A) → ((k : ℕ) (x : A) → Always bodies (f k x)) → Always bodies (in_turn f k xs)
  unfolding in_turn
  free-in_turn f k [] h = λ s n. makes-done bodies s n tt
  free-in_turn f k (x ∷ xs) h = always-then bodies (f k x) (λ _. in_turn f (suc k) xs) (h k x) (λ _. free-in_turn f (suc k) xs h)

  pub free-allocations : (line : ℕ) (ps : List Part) → Always bodies (in_turn (λ k. allocation line (nat_lt 0 k)) 0 ps)
  free-allocations line ps = free-in_turn (λ k. allocation line (nat_lt 0 k)) 0 ps (λ k p. free-allocation line (nat_lt 0 k) p)

  pub free-deallocations : (line : ℕ) (xs : List Name) → Always bodies (in_turn (λ k. deallocation line (nat_lt 0 k)) 0 xs)
  free-deallocations line xs = free-in_turn (λ k. deallocation line (nat_lt 0 k)) 0 xs (λ k x. free-deallocation line (nat_lt 0 k) x)

  pub free-readings : (line : ℕ) (es : List Expr) → Always bodies (in_turn (λ k. reading line (nat_lt 0 k)) 0 es)
  free-readings line es = free-in_turn (λ k. reading line (nat_lt 0 k)) 0 es (λ k e. free-reading line (nat_lt 0 k) e)

  pub free-declares : (k : ℕ) (xs : List Variable) → Always bodies (in_turn declaration k xs)
  unfolding declaration
  free-declares k xs =
      free-in_turn declaration k xs
      (λ k v. always-then bodies (giving (what.Declare v.name) [] v.declare.kind) (λ _. done tt)
      (λ s n. makes-giving bodies s n (what.Declare v.name) [] v.declare.kind (free-op (what.Declare v.name) s.line [] (Some v.declare.kind) [] refl)) (λ _ s n. makes-done bodies s n tt))
