-- The masks and assignments of ops, over the lists of their regions.
use Rattle.std.proofs.Common.{◌≡◌, refl, ap, ◌∙◌, ℕ, ◌+◌, Bool, true, false, List, [], ◌∷◌, Option}
use mathlib.Core.Path.{fun_ext}
use Rattle.hlfir_ops.specs.declared.kinds.ValueKind.{ValueKind}
use Rattle.hlfir_ops.specs.declared.what.What.{What}
use Rattle.hlfir_ops.specs.declared.what.What.TheVariants as what
use Rattle.hlfir_ops.specs.declared.op.ValueId.{ValueId}
use Rattle.hlfir_ops.specs.declared.op.Op.{Op, Op-F, out-Op, out-roll-Op}
use Rattle.hlfir_ops.specs.declared.op.Region.{Region, out-roll-Region}
use Rattle.hlfir_ops.specs.declared.op.Op.TheBlock.{hidden-the_row-Region-0, hidden-the_row-Op-1}
use Rattle.hlfir_ops.specs.Opened.{trees_open}
use Rattle.hlfir_ops.specs.Trees.{op_of, region_of}
use Rattle.hlfir_ops.specs.Numbers.{op_numbers, numbers_of}
use Rattle.ws_space.specs.Masks.{Control, held, failed}
use Rattle.hlfir_meaning.specs.Steps.{Numbered, nothing, event, both, masking, assigned, assignment_of, op_region, past, block, inside, otherwise, elsewheres, elsewhere}
use Rattle.world_laws.specs.Yields.{region}

abbrev pub block_of : Control → ℕ → List Op → Numbered
block_of c n [] = nothing
block_of c n (op ∷ ops) = both (inside c n op) (block_of c (op_numbers op + n) ops)

block-list : (c : Control) (n : ℕ) (ops : List Op) → block c n (hidden-the_row-Op-1 ops) ≡ block_of c n ops
unfolding trees_open
block-list c n [] = refl
block-list c n (op ∷ ops) = ap (both (inside c n op)) (block-list c (op_numbers op + n) ops)

-- ---- regions

pub region-is : (n : ℕ) (ops : List Op) → op_region n (region_of ops) ≡ region n ops
region-is n ops = ap (λ l. region n l.ops) (out-roll-Region (record { ops = ops }))

pub past-is : (n : ℕ) (ops : List Op) → past n (region_of ops) ≡ numbers_of ops + n
past-is n ops = ap (λ l. numbers_of l.ops + n) (out-roll-Region (record { ops = ops }))

module _ (c : Control) (line : ℕ) (os : List ValueId) (kind : Option ValueKind) (n : ℕ) where
  assign_front : (realloc : Bool) (rs : List Region) → inside c n (op_of (what.Assign realloc) line os kind rs) ≡ event (assigned (assignment_of c line realloc n (out-Op (op_of (what.Assign realloc) line os kind rs)).regions))
  unfolding trees_open
  assign_front realloc rs = refl

  pub inside-assign : (realloc : Bool) (rs : List Region) → inside c n (op_of (what.Assign realloc) line os kind rs) ≡ event (assigned (assignment_of c line realloc n rs))
  inside-assign realloc rs =
      let whole : Op-F Op Region = record { what = what.Assign realloc; line = line; operands = os; kind = kind; regions = rs } in
      assign_front realloc rs ∙ ap (λ f. event (assigned (assignment_of c line realloc n f.regions))) (out-roll-Op whole)

  masked_front : (test : Region) (body : List Op) (rs : List Region) → inside c n (op_of what.Masked line os kind (test ∷ region_of body ∷ rs)) ≡
      masking line (op_region n test) c (λ k. both (block (held k) (past n test) (hidden-the_row-Op-1 body)) (otherwise (failed k) (past (past n test) (region_of body)) (hidden-the_row-Region-0 rs)))
  unfolding trees_open
  masked_front test body rs = refl

otherwise_none : (c : Control) (n : ℕ) → otherwise c n (hidden-the_row-Region-0 []) ≡ nothing
unfolding trees_open
otherwise_none c n = refl

otherwise_some : (c : Control) (n : ℕ) (ops : List Op) → otherwise c n (hidden-the_row-Region-0 (region_of ops ∷ [])) ≡ elsewheres c n (hidden-the_row-Op-1 ops)
unfolding trees_open
otherwise_some c n ops = refl

-- ---- elsewheres

abbrev pub elsewheres_of : Control → ℕ → List Op → Numbered
elsewheres_of c n [] = nothing
elsewheres_of c n (op ∷ ops) = elsewhere c n op (λ d. elsewheres_of d (op_numbers op + n) ops)

elsewheres-list : (c : Control) (n : ℕ) (ops : List Op) → elsewheres c n (hidden-the_row-Op-1 ops) ≡ elsewheres_of c n ops
unfolding trees_open
elsewheres-list c n [] = refl
elsewheres-list c n (op ∷ ops) = ap (elsewhere c n op) (fun_ext (λ d. elsewheres-list d (op_numbers op + n) ops))

module _ (c : Control) (line : ℕ) (os : List ValueId) (kind : Option ValueKind) (n : ℕ) (rest : Control → Numbered) where
  last_front : (w : What) (body : List Op) → elsewhere c n (op_of w line os kind (region_of body ∷ [])) rest ≡ block c n (hidden-the_row-Op-1 body)
  unfolding trees_open
  last_front w body = refl

  -- an ELSEWHERE without a mask
  pub elsewhere-last : (w : What) (body : List Op) → elsewhere c n (op_of w line os kind (region_of body ∷ [])) rest ≡ block_of c n body
  elsewhere-last w body = last_front w body ∙ block-list c n body

  next_front : (w : What) (test : Region) (body : List Op) → elsewhere c n (op_of w line os kind (test ∷ region_of body ∷ [])) rest ≡
      masking line (op_region n test) c (λ k. both (block (held k) (past n test) (hidden-the_row-Op-1 body)) (rest (failed k)))
  unfolding trees_open
  next_front w test body = refl

  -- and with one
  pub elsewhere-next : (w : What) (test body : List Op) → elsewhere c n (op_of w line os kind (region_of test ∷ region_of body ∷ [])) rest ≡
      masking line (region n test) c (λ k. both (block_of (held k) (numbers_of test + n) body) (rest (failed k)))
  elsewhere-next w test body =
      next_front w (region_of test) body
      ∙ (ap (λ r. masking line r c (λ k. both (block (held k) (past n (region_of test)) (hidden-the_row-Op-1 body)) (rest (failed k)))) (region-is n test)
      ∙ (ap (λ m. masking line (region n test) c (λ k. both (block (held k) m (hidden-the_row-Op-1 body)) (rest (failed k)))) (past-is n test)
      ∙ ap (λ (f : ℕ → Numbered). masking line (region n test) c (λ k. both (f k) (rest (failed k)))) (fun_ext (λ k. block-list (held k) (numbers_of test + n) body))))

-- ---- WHERE

-- the elsewheres are in one region, where there are any
abbrev pub third_regions : Bool → List Op → List Region
third_regions true ops = region_of ops ∷ []
third_regions false ops = []

abbrev pub third_events : Bool → Control → ℕ → List Op → Numbered
third_events true c n ops = elsewheres_of c n ops
third_events false c n ops = nothing

third-list : (b : Bool) (c : Control) (n : ℕ) (ops : List Op) → otherwise c n (hidden-the_row-Region-0 (third_regions b ops)) ≡ third_events b c n ops
third-list true c n ops = otherwise_some c n ops ∙ elsewheres-list c n ops
third-list false c n ops = otherwise_none c n

module _ (c : Control) (line : ℕ) (os : List ValueId) (kind : Option ValueKind) (n : ℕ) where
  pub inside-masked : (test body : List Op) (some : Bool) (rest : List Op) → inside c n (op_of what.Masked line os kind (region_of test ∷ region_of body ∷ third_regions some rest)) ≡
      masking line (region n test) c (λ k. both (block_of (held k) (numbers_of test + n) body) (third_events some (failed k) (numbers_of body + (numbers_of test + n)) rest))
  inside-masked test body some rest =
      let third = hidden-the_row-Region-0 (third_regions some rest) in
      let rows = hidden-the_row-Op-1 body in
      masked_front c line os kind n (region_of test) body (third_regions some rest)
      ∙ (ap (λ r. masking line r c (λ k. both (block (held k) (past n (region_of test)) rows) (otherwise (failed k) (past (past n (region_of test)) (region_of body)) third))) (region-is n test)
      ∙ (ap (λ m. masking line (region n test) c (λ k. both (block (held k) m rows) (otherwise (failed k) (past m (region_of body)) third))) (past-is n test)
      ∙ (ap (λ m. masking line (region n test) c (λ k. both (block (held k) (numbers_of test + n) rows) (otherwise (failed k) m third))) (past-is (numbers_of test + n) body)
      ∙ (ap (λ (f : ℕ → Numbered). masking line (region n test) c (λ k. both (f k) (otherwise (failed k) (numbers_of body + (numbers_of test + n)) third))) (fun_ext (λ k. block-list (held k) (numbers_of test + n) body))
      ∙ ap (λ (f : ℕ → Numbered). masking line (region n test) c (λ k. both (block_of (held k) (numbers_of test + n) body) (f k))) (fun_ext (λ k. third-list some (failed k) (numbers_of body + (numbers_of test + n)) rest))))))
