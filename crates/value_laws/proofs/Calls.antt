-- Calls of all their arguments at once: ABS, MOD, MODULO and MERGE.
use Rattle.std.proofs.Common.{◌≡◌, refl, sym, ap, ◌∙◌, subst, ℕ, ◌≤◌, ◌==◌, Bool, true, false, List, [], ◌∷◌, ◌++◌, length, Option, Some, None, Ok, ℤ, arith}
use Rattle.std.specs.Prelude.{max}
use Rattle.ws_base.specs.Numbers.{default_half, call_value}
use Rattle.ws_base.specs.Outcomes.{Staged, scalar_of, ◌>>=◌}
use Rattle.ws_base.specs.declared.op.CallWord.{CallWord}
use Rattle.ws_base.specs.declared.op.CallWord.TheVariants as word
use Rattle.ws_space.specs.Values.{is_among}
use Rattle.ws_space.specs.Maps.{call_map}
use Rattle.array_meaning.specs.declared.term.Term.{Term}
use Rattle.array_meaning.specs.declared.term.Term.TheVariants as term
use Rattle.array_meaning.specs.declared.term.Pick.TheBlock.{hidden-the_row-Term-2}
use Rattle.array_meaning.specs.Terms.{terms_open}
use Rattle.array_meaning.specs.Stage1 as source
use Rattle.array_meaning.specs.Stage2 as later
use Rattle.hlfir_ops.specs.declared.kinds.Elem.{Elem}
use Rattle.hlfir_ops.specs.declared.what.ValueUnary.TheVariants as unary
use Rattle.hlfir_ops.specs.declared.what.ValueBinary.TheVariants as binary
use Rattle.hlfir_ops.specs.declared.what.What.{What}
use Rattle.hlfir_ops.specs.declared.what.What.TheVariants as what
use Rattle.hlfir_ops.specs.RulesValues.{rank_of}
use Rattle.hlfir_meaning.specs.Environments.{Environment, scalar_in}
use Rattle.hlfir_meaning.specs.Operators.{operation_value, operation_map, select_operation}
use Rattle.hlfir_meaning.specs.Places.{columns_of, as_column, over}
use Rattle.hlfir_meaning.specs.Stage1.{made, as_scalar, scalars}
use Rattle.lower_values.specs.declared.operand.Operand.{Operand}
use Rattle.lower_values.specs.Scopes.{Scope}
use Rattle.lower_values.specs.Operations.{values_of, arranged, rank_from, at_each, operation, call_on, call_elem}
use Rattle.value_laws.specs.Standing.{Does, Stands, StandEach, values_each, operands_each}
use Rattle.value_laws.proofs.Elementals.{each-bounds}
use Rattle.value_laws.proofs.Settled.{settled_if, settle_if, StandsIf, does-scalar_if}
use Rattle.value_laws.proofs.Operations.{IsElementwise, unary-elementwise, binary-elementwise, does-on_scalars, does-at_each, operation-scalar, operation-array, max-left, max-right, max-none}

-- ---- MERGE

select_acts : (at : List ℕ) (env : Environment) (ys : List Operand) → length ys ≡ 3 → over at env what.Select (arranged what.Select (values_of ys)) ≡ as_column (operation_map select_operation at (columns_of at env (values_of ys)))
select_acts at env [] h = absurd (omega arith)
select_acts at env (a ∷ []) h = absurd (omega arith)
select_acts at env (a ∷ b ∷ []) h = absurd (omega arith)
select_acts at env (a ∷ b ∷ c ∷ []) h = refl
select_acts at env (a ∷ b ∷ c ∷ d ∷ ys) h = absurd (omega arith)

select_makes : (n : ℕ) (env : Environment) (ys : List Operand) → length ys ≡ 3 → made n env what.Select (arranged what.Select (values_of ys)) [] ≡ as_scalar (scalar_of (operation_value select_operation (scalars env (values_of ys))))
select_makes n env [] h = absurd (omega arith)
select_makes n env (a ∷ []) h = absurd (omega arith)
select_makes n env (a ∷ b ∷ []) h = absurd (omega arith)
select_makes n env (a ∷ b ∷ c ∷ []) h = refl
select_makes n env (a ∷ b ∷ c ∷ d ∷ ys) h = absurd (omega arith)

abbrev Calls : CallWord → What → ℕ → Type 0
Calls w op many = IsElementwise op many (call_map w) (λ vs. scalar_of (call_value default_half w vs))

merge : Calls word.Merge what.Select 3
merge = record { goes_on = refl; no_apply = refl; whole = λ b. refl; acts = select_acts; makes = select_makes }

-- ---- terms

pub operands-call : (ts : List Term) → later.all_operands (hidden-the_row-Term-2 ts) ≡ operands_each ts
unfolding terms_open
operands-call [] = refl
operands-call (t ∷ ts) = ap (λ r. later.operands t ++ r) (operands-call ts)

pub settled-call : (b : Bool) (w : CallWord) (ts : List Term) → settle_if b (Ok (term.Call w ts)) ≡ settled_if b (term.Call w ts)
unfolding terms_open
settled-call true w ts = refl
settled-call false w ts = refl

pub values-call : (ts : List Term) (at : List ℕ) → later.all_values (hidden-the_row-Term-2 ts) at ≡ values_each ts at
unfolding terms_open
values-call [] at = refl
values-call (t ∷ ts) at = ap (λ r. later.values t at >>= (λ xs. r >>= (λ rest. let cs : Staged (List (List ℤ)) = Ok (xs ∷ rest) in cs))) (values-call ts at)

-- ---- the operands of a call

rank_from-high : (r : ℕ) (xs : List Operand) → (r == 0) ≡ false → (rank_from r xs == 0) ≡ false
rank_from-high r [] h = h
rank_from-high r (x ∷ xs) h = rank_from-high (max r (rank_of x.kind)) xs (max-left r (rank_of x.kind) h)

module _ (base : ℕ) (env : Environment) where
  -- scalars all, of these values; or not all
  abbrev Are : Option (List ℤ) → List Operand → Type 0
  Are (Some vs) xs = ((r : ℕ) → (r == 0) ≡ true → (rank_from r xs == 0) ≡ true) × (scalars env (values_of xs) ≡ vs)
  Are None xs = (r : ℕ) → (rank_from r xs == 0) ≡ false

  one_more : (low high : ℕ) (x : Operand) (xs : List Operand) (o : Option (List ℤ)) (t : Term) → Stands base low high env x t → Are o xs → Are (source.with_scalar o t) (x ∷ xs)
  one_more low high x xs (Some vs) (term.Scalar v) h is = (
    λ r z. is.0 (max r (rank_of x.kind)) (max-none r (rank_of x.kind) z h.rank.0),
    ap (λ a. scalar_in a ∷ scalars env (values_of xs)) (h.found ∙ h.rank.1) ∙ ap (λ us. v ∷ us) is.1,
  )
  one_more low high x xs (Some vs) t h is = λ r. rank_from-high (max r (rank_of x.kind)) xs (max-right r (rank_of x.kind) h.rank)
  one_more low high x xs None t h is = λ r. is (max r (rank_of x.kind))

  all-are : (low high : ℕ) (xs : List Operand) (ts : List Term) → StandEach base low high env xs ts → Are (source.scalars ts) xs
  all-are low high [] [] h = (λ r z. z, refl)
  all-are low high [] (t ∷ ts) h = absurd h
  all-are low high (x ∷ xs) [] h = absurd h
  all-are low high (x ∷ xs) (t ∷ ts) h = one_more low h.0 x xs (source.scalars ts) t h.2 (all-are h.0 high xs ts h.3)

module _ (w : CallWord) (op : What) (many : ℕ) (is : Calls w op many) (vectors : List ℕ) (base low : ℕ) (s : Scope) (n : ℕ) (env : Environment) (xs : List Operand) (ts : List Term)
    (g : base ≤ low) (long : length xs ≡ many) (b : Bool) (among : is_among n vectors ≡ b) (h : StandEach base low n env xs ts) (e : Elem) where
  abbrev Leaves : Staged Term → Type 0
  Leaves r = Does vectors s n env (operation op e xs) (settle_if b r) (λ x t m after. StandsIf b base low m after x t)

  abbrev value : List ℤ → Staged ℤ
  value vs = scalar_of (call_value default_half w vs)

  call_of : (o : Option (List ℤ)) → Are base env o xs → Leaves (source.elemental_on w ts o)
  unfolding terms_open
  call_of (Some vs) are = does-scalar_if vectors base low s n env (operation op e xs) b (value vs)
      (subst (λ p. Does vectors s n env p (source.elemental_on w ts (Some vs)) (λ x t m after. Stands base low m after x t)) (sym (operation-scalar op e xs (are.0 0 refl)))
      (does-on_scalars vectors base low s n env xs ts op e many (call_map w) value is long (each-bounds base env low n xs ts h) (value vs) (ap value are.1)))
  call_of None are =
      subst (λ p. Does vectors s n env p (settle_if b (Ok (term.Call w ts))) (λ x t m after. StandsIf b base low m after x t)) (sym (operation-array op e xs (are 0)))
      (subst (λ q. Does vectors s n env (at_each op e (rank_from 0 xs) xs) q (λ x t m after. StandsIf b base low m after x t)) (sym (settled-call b w ts))
      (does-at_each vectors base low s n env xs ts op e many (call_map w) value is long (rank_from 0 xs) g h (term.Call w ts) b among (are 0) (operands-call ts) (λ at. ap (λ r. r >>= call_map w at) (values-call ts at)) (λ v. are 0)))

  elemental_call : Leaves (source.elemental_on w ts (source.scalars ts))
  elemental_call = call_of (source.scalars ts) (all-are base env low n xs ts h)

module _ (b : Bool) (vectors : List ℕ) (base low : ℕ) (s : Scope) (n : ℕ) (env : Environment) (xs : List Operand) (ts : List Term) (g : base ≤ low) where
  -- where the call is a vector subscript or not
  abbrev pub StandIf : CallWord → Type 0
  StandIf w = Does vectors s n env (call_on w xs) (settle_if b (source.called w ts)) (λ x t m after. StandsIf b base low m after x t)

  pub abs-if : length xs ≡ 1 → is_among n vectors ≡ b → StandEach base low n env xs ts → StandIf word.Abs
  unfolding call_on
  abs-if long among h = elemental_call word.Abs (what.Unary unary.Abs) 1 (unary-elementwise unary.Abs) vectors base low s n env xs ts g long b among h (call_elem word.Abs xs)

  pub mod-if : length xs ≡ 2 → is_among n vectors ≡ b → StandEach base low n env xs ts → StandIf word.Mod
  unfolding call_on
  mod-if long among h = elemental_call word.Mod (what.Binary binary.Mod) 2 (binary-elementwise binary.Mod) vectors base low s n env xs ts g long b among h (call_elem word.Mod xs)

  pub modulo-if : length xs ≡ 2 → is_among n vectors ≡ b → StandEach base low n env xs ts → StandIf word.Modulo
  unfolding call_on
  modulo-if long among h = elemental_call word.Modulo (what.Binary binary.Modulo) 2 (binary-elementwise binary.Modulo) vectors base low s n env xs ts g long b among h (call_elem word.Modulo xs)

  pub merge-if : length xs ≡ 3 → is_among n vectors ≡ b → StandEach base low n env xs ts → StandIf word.Merge
  unfolding call_on
  merge-if long among h = elemental_call word.Merge what.Select 3 merge vectors base low s n env xs ts g long b among h (call_elem word.Merge xs)
