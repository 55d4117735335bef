-- One list of statements of a module after another.
use mathlib.Core.Path.{fun_ext}
use Rattle.std.proofs.Common.{◌≡◌, refl, sym, ap, ◌∙◌, ℕ, ◌+◌, false, List, [], ◌∷◌, ◌++◌, arith, if◌then◌else◌}
use Rattle.ws_space.specs.declared.state.State.{State}
use Rattle.ws_space.specs.Runs.{and_then}
use Rattle.hlfir_ops.specs.declared.op.Op.{Op, out-Op}
use Rattle.hlfir_ops.specs.Numbers.{op_numbers, numbers_of}
use Rattle.hlfir_ops.specs.RulesStatements.{is_also}
use Rattle.hlfir_meaning.specs.Statements.{Item, statement, statement_list, continued_in}
use Rattle.run_laws.proofs.InOrder.{and_then-both}

-- the first one does not go on in the statement of an op before it
abbrev pub StartsAnew : List Op → Type 0
StartsAnew [] = Unit {0}
StartsAnew (op ∷ ops) = is_also (out-Op op).what ≡ false

pub anew-append : (xs ys : List Op) → StartsAnew xs → StartsAnew ys → StartsAnew (xs ++ ys)
anew-append [] ys h g = g
anew-append (op ∷ xs) ys h g = h

none_continued : (n : ℕ) (ys : List Op) → StartsAnew ys → continued_in n ys ≡ []
none_continued n [] h = refl
none_continued n (op ∷ ys) h = ap (λ b. let r : List Item = if b then record { number = n; op = op } ∷ continued_in (op_numbers op + n) ys else [] in r) h

continued-append : (n : ℕ) (xs ys : List Op) → StartsAnew ys → continued_in n (xs ++ ys) ≡ continued_in n xs
continued-append n [] ys h = none_continued n ys h
continued-append n (op ∷ xs) ys h = ap (λ l. if is_also (out-Op op).what then record { number = n; op = op } ∷ l else []) (continued-append (op_numbers op + n) xs ys h)

-- the next number after some ops
moved : (n k m : ℕ) → k + (m + n) ≡ (m + k) + n
moved n k m = omega arith

pub statement_list-append : (input : List ℕ) (n : ℕ) (xs ys : List Op) (s : State) → StartsAnew ys →
    statement_list input n (xs ++ ys) s ≡ and_then (statement_list input n xs s) (λ r. statement_list input (numbers_of xs + n) ys r)
statement_list-append input n [] ys s h = ap (λ k. statement_list input k ys s) (let e : n ≡ 0 + n = omega arith in e)
statement_list-append input n (op ∷ xs) ys s h =
    let first = statement input n op (continued_in (op_numbers op + n) xs) s in
    ap (λ is. and_then (statement input n op is s) (λ r. statement_list input (op_numbers op + n) (xs ++ ys) r)) (continued-append (op_numbers op + n) xs ys h)
    ∙ (ap (and_then first) (fun_ext (λ r. statement_list-append input (op_numbers op + n) xs ys r h))
    ∙ (ap (λ k. and_then first (λ r. and_then (statement_list input (op_numbers op + n) xs r) (λ q. statement_list input k ys q))) (moved n (numbers_of xs) (op_numbers op))
    ∙ sym (and_then-both first (λ r. statement_list input (op_numbers op + n) xs r) (λ q. statement_list input (numbers_of (op ∷ xs) + n) ys q))))
