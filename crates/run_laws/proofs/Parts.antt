-- Statements of a module by the fields of their ops.
use mathlib.Core.Path.{fun_ext}
use Rattle.std.proofs.Common.{◌≡◌, refl, ap, ◌∙◌, ℕ, ◌+◌, Bool, List, [], ◌∷◌, length, Option, Ok, if◌then◌else◌}
use Rattle.ws_space.specs.declared.state.State.{State}
use Rattle.ws_space.specs.Faults.{at_line}
use Rattle.ws_space.specs.Runs.{Run, run_of, and_then, ticked, region_run, loop_of}
use Rattle.hlfir_ops.specs.declared.kinds.ValueKind.{ValueKind}
use Rattle.hlfir_ops.specs.declared.what.What.{What}
use Rattle.hlfir_ops.specs.declared.what.What.TheVariants as what
use Rattle.hlfir_ops.specs.declared.op.ValueId.{ValueId}
use Rattle.hlfir_ops.specs.declared.op.Op.{Op, out-Op, out-roll-Op}
use Rattle.hlfir_ops.specs.declared.op.Region.{Region, out-Region, out-roll-Region}
use Rattle.hlfir_ops.specs.declared.op.Op.TheBlock.{hidden-the_row-Op-1}
use Rattle.hlfir_ops.specs.Opened.{trees_open}
use Rattle.hlfir_ops.specs.Trees.{op_of, region_of}
use Rattle.hlfir_ops.specs.Numbers.{op_numbers, numbers_of}
use Rattle.hlfir_ops.specs.RulesRegions.{ops_in}
use Rattle.hlfir_ops.specs.RulesStatements.{is_also}
use Rattle.hlfir_meaning.specs.Environments.{of_variables, operand, variable_in}
use Rattle.hlfir_meaning.specs.Statements.{Item, statement, statements, statement_list, continued, continued_in, unless_also, changed, simple, simple_block, loop_triplet, allocate, deallocate, read}
use Rattle.value_laws.proofs.Ops.{ops_in-first}
use Rattle.run_laws.proofs.InOrder.{and_then-same}

continued-list : (n : ℕ) (ops : List Op) → continued n (hidden-the_row-Op-1 ops) ≡ continued_in n ops
unfolding trees_open
continued-list n [] = refl
continued-list n (op ∷ ops) = ap (λ l. if is_also (out-Op op).what then record { number = n; op = op } ∷ l else []) (continued-list (op_numbers op + n) ops)

statements-list : (input : List ℕ) (n : ℕ) (ops : List Op) (s : State) → statements input n (hidden-the_row-Op-1 ops) s ≡ statement_list input n ops s
unfolding trees_open statements statement
statements-list input n [] s = refl
statements-list input n (op ∷ ops) s =
    ap (λ is. and_then (statement input n op is s) (λ r. statements input (op_numbers op + n) (hidden-the_row-Op-1 ops) r)) (continued-list (op_numbers op + n) ops)
    ∙ and_then-same (statement input n op (continued_in (op_numbers op + n) ops) s) _ _ (statements-list input (op_numbers op + n) ops)

module _ (input : List ℕ) (n : ℕ) (line : ℕ) (os : List ValueId) (kind : Option ValueKind) where
  pub statement-declare : (name : _) (regions : List Region) (also : List Item) (s : State) → statement input n (op_of (what.Declare name) line os kind regions) also s ≡ run_of (Ok s)
  unfolding trees_open statement statements
  statement-declare name regions also s = refl

  -- its regions are a header and a body
  front : (header body : List Op) (also : List Item) (s : State) → statement input n (op_of what.DoLoop line os kind (region_of header ∷ region_of body ∷ [])) also s ≡
      and_then (run_of (ticked line 1 s)) (λ r. loop_of line (variable_in (operand (of_variables r.vars) os)).name (at_line line (loop_triplet r.vars (record { first = n; ops = (out-Region (region_of header)).ops })))
      (λ q. statements input (numbers_of (out-Region (region_of header)).ops + n) (hidden-the_row-Op-1 body) q) r)
  unfolding trees_open statement statements
  front header body also s = refl

  pub statement-loop : (header body : List Op) (also : List Item) (s : State) → statement input n (op_of what.DoLoop line os kind (region_of header ∷ region_of body ∷ [])) also s ≡
      and_then (run_of (ticked line 1 s)) (λ r. loop_of line (variable_in (operand (of_variables r.vars) os)).name (at_line line (loop_triplet r.vars (record { first = n; ops = header })))
      (λ q. statement_list input (numbers_of header + n) body q) r)
  statement-loop header body also s =
      let same : (out-Region (region_of header)).ops ≡ header = ap (λ f. f.ops) (out-roll-Region (record { ops = header })) in
      front header body also s
      ∙ (ap (λ h. and_then (run_of (ticked line 1 s)) (λ r. loop_of line (variable_in (operand (of_variables r.vars) os)).name (at_line line (loop_triplet r.vars (record { first = n; ops = h })))
      (λ q. statements input (numbers_of h + n) (hidden-the_row-Op-1 body) q) r)) same
      ∙ ap (λ k. and_then (run_of (ticked line 1 s)) (λ r. loop_of line (variable_in (operand (of_variables r.vars) os)).name (at_line line (loop_triplet r.vars (record { first = n; ops = header }))) k r))
      (fun_ext (statements-list input (numbers_of header + n) body)))

  -- ---- statements that hold no other, and regions

  module _ (regions : List Region) (also : List Item) (s : State) where
    abbrev pub whole : What → Op
    whole w = op_of w line os kind regions

    abbrev pub items : What → List Item
    items w = record { number = n; op = whole w } ∷ also

    line-op_of : (w : What) → (out-Op (whole w)).line ≡ line
    line-op_of w = ap (λ f. f.line) (out-roll-Op (record { what = w; line = line; operands = os; kind = kind; regions = regions }))

    abbrev pub simple_run : What → Run
    simple_run w = and_then (run_of (ticked line 1 s)) (λ r. run_of (changed r (simple n (whole w) w r.vars)))

    counted : (w : What) → and_then (run_of (ticked (out-Op (whole w)).line 1 s)) (λ r. run_of (changed r (simple n (whole w) w r.vars))) ≡ simple_run w
    counted w = ap (λ l. and_then (run_of (ticked l 1 s)) (λ r. run_of (changed r (simple n (whole w) w r.vars)))) (line-op_of w)

    pub statement-assign : (b : Bool) → statement input n (whole (what.Assign b)) also s ≡ simple_run (what.Assign b)
    unfolding trees_open statement statements
    statement-assign b = counted (what.Assign b)

    pub statement-masked : statement input n (whole what.Masked) also s ≡ simple_run what.Masked
    unfolding trees_open statement statements
    statement-masked = counted what.Masked

    pub statement-forall : (names : _) → statement input n (whole (what.Forall names)) also s ≡ simple_run (what.Forall names)
    unfolding trees_open statement statements
    statement-forall names = counted (what.Forall names)

    pub statement-allocate : (b : Bool) → statement input n (whole (what.Allocmem b)) also s ≡
        unless_also b s (and_then (run_of (ticked line 1 s)) (λ r. run_of (changed r (at_line line (allocate r.vars (items (what.Allocmem b)))))))
    unfolding trees_open statement statements
    statement-allocate b = ap (λ l. unless_also b s (and_then (run_of (ticked l 1 s)) (λ r. run_of (changed r (at_line l (allocate r.vars (items (what.Allocmem b)))))))) (line-op_of (what.Allocmem b))

    pub statement-deallocate : (b : Bool) → statement input n (whole (what.Freemem b)) also s ≡
        unless_also b s (and_then (run_of (ticked line 1 s)) (λ r. run_of (changed r (at_line line (deallocate r.vars (items (what.Freemem b)))))))
    unfolding trees_open statement statements
    statement-deallocate b = ap (λ l. unless_also b s (and_then (run_of (ticked l 1 s)) (λ r. run_of (changed r (at_line l (deallocate r.vars (items (what.Freemem b)))))))) (line-op_of (what.Freemem b))

    pub statement-read : (b : Bool) → statement input n (whole (what.Read b)) also s ≡
        unless_also b s (and_then (run_of (ticked line 1 s)) (λ r. run_of (at_line line (read input r (items (what.Read b))))))
    unfolding trees_open statement statements
    statement-read b = ap (λ l. unless_also b s (and_then (run_of (ticked l 1 s)) (λ r. run_of (at_line l (read input r (items (what.Read b))))))) (line-op_of (what.Read b))

  module _ (block : List Op) (also : List Item) (s : State) where
    abbrev shared : Op
    shared = op_of what.Workshare line os kind (region_of block ∷ [])

    ops-shared : ops_in (out-Op shared).regions 0 ≡ block
    ops-shared = ap (λ f. ops_in f.regions 0) (out-roll-Op (record { what = what.Workshare; line = line; operands = os; kind = kind; regions = region_of block ∷ [] })) ∙ ops_in-first block []

    pub statement-shared : statement input n shared also s ≡ and_then (run_of (ticked line (length block) s)) (λ r. region_run line r (λ q. changed q (simple_block n block q.vars)))
    unfolding trees_open statement statements
    statement-shared =
        ap (λ l. and_then (run_of (ticked l (length (ops_in (out-Op shared).regions 0)) s)) (λ r. region_run l r (λ q. changed q (simple_block n (ops_in (out-Op shared).regions 0) q.vars))))
        (line-op_of (region_of block ∷ []) also s what.Workshare)
        ∙ ap (λ ops. and_then (run_of (ticked line (length ops) s)) (λ r. region_run line r (λ q. changed q (simple_block n ops q.vars)))) ops-shared
