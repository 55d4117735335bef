-- The registers of ops are words.
use Rattle.std.proofs.Common.{◌≡◌, inl, refl, ℕ, zero, suc, ◌<◌, Bool, true, false, if◌then◌else◌, ◌&&◌, ◌||◌, not, List, [], ◌∷◌, ◌++◌, Ok, Err, ℤ, pos, negsuc, neg_ℤ, ◌+ℤ◌, ◌-ℤ◌, ◌*ℤ◌, ◌<ℤ◌, unsigned_abs, arith}
use Rattle.std.specs.Prelude.{int_le, int_lt, int_div, int_rem}
use Rattle.std.specs.Int.{w64, int_pow}
use Rattle.std.proofs.Math.Facts.{sfits_to_z}
use Rattle.std.proofs.lemmas.Int.{quot_fits}
use lib.Signed.{mag_rem}
use Rattle.std.proofs.lemmas.Bool.Decides.{nat_tests}
use Rattle.ws_base.specs.declared.fault.FaultName.{FaultName}
use Rattle.ws_base.specs.declared.fault.FaultName.TheVariants.{Overflow, DivideByZero}
use Rattle.ws_base.specs.Numbers.{Exact, int_eq, truth, is_true, in_range, default_half, exact, unless_zero, power, floor_rem}
use Rattle.phase_ops.specs.declared.effect.Turn.TheVariants.{Next, Fails}
use Rattle.phase_ops.specs.declared.phase.OneOp.{OneOp}
use Rattle.phase_ops.specs.declared.phase.OneOp.TheVariants as one
use Rattle.phase_ops.specs.declared.phase.ScalarOp.{ScalarOp}
use Rattle.phase_ops.specs.declared.phase.ScalarOp.TheVariants as scalar
use Rattle.phase_ops.specs.declared.phase.Micro.{Micro}
use Rattle.phase_ops.specs.declared.phase.Micro.TheVariants as micro
use Rattle.phase_ops.specs.Scalars.{one_value, scalar_value}
use Rattle.phase_ops.specs.Phases.{register, source, divisors, turn, turn_of}
use Rattle.phase_ops.specs.Free.{In}
use Rattle.act_laws.specs.Together.{Files, Scene, outcome, number_in, gives_at, with_op, with_ops}
use Rattle.act_laws.specs.Strands.{IsPlain}
use Rattle.act_laws.specs.Words.{IsWord, IsWordy, AreWordy, HoldWords, AllWords}

pub small_word : (q : ℕ) → q < 9223372036854775808 → IsWord (pos q)
small_word q h = record { sfits = h }

zero_word : IsWord (pos 0)
zero_word = small_word 0 (omega arith)

truth_word : (b : Bool) → IsWord (truth b)
truth_word true = small_word 1 (omega arith)
truth_word false = zero_word

if_word : (b : Bool) (x y : ℤ) → IsWord x → IsWord y → IsWord (if b then x else y)
if_word true x y h g = h
if_word false x y h g = g

-- what is given is a word
abbrev Gives : Exact → Type 0
Gives (Ok z) = IsWord z
Gives (Err n) = Unit {0}

exact_from : (z : ℤ) (b : Bool) → in_range default_half z ≡ b → Gives (if b then Ok z else Err Overflow)
exact_from (pos n) true e = record { sfits = (let l : n < 2147483648 = grind (arith, nat_tests, e) in omega (arith, l)) }
exact_from (negsuc n) true e = record { sfits = (let l : n < 2147483648 = grind (arith, nat_tests, e) in omega (arith, l)) }
exact_from z false e = tt

exact_gives : (z : ℤ) → Gives (exact default_half z)
exact_gives z = exact_from z (in_range default_half z) refl

if_gives : (b : Bool) (n : FaultName) (x : Exact) → Gives x → Gives (if b then Err n else x)
if_gives true n x h = tt
if_gives false n x h = h

unless_gives : (b z : ℤ) → Gives (unless_zero default_half b z)
unless_gives b z = if_gives (int_eq b (pos 0)) DivideByZero (exact default_half z) (exact_gives z)

power_gives : (a b : ℤ) → Gives (power default_half a b)
power_gives a (pos n) = exact_gives (int_pow a n)
power_gives a (negsuc n) = unless_gives (int_pow a (suc n)) (int_div (pos 1) (int_pow a (suc n)))

one_gives : (o : OneOp) (a : ℤ) → IsWord a → Gives (one_value default_half o a)
one_gives one.Minus a h = exact_gives (neg_ℤ a)
one_gives one.Plus a h = h
one_gives one.Not a h = truth_word (not (is_true a))
one_gives one.Abs a h = exact_gives (pos (unsigned_abs a))

scalar_gives : (o : ScalarOp) (a b : ℤ) → IsWord a → IsWord b → Gives (scalar_value default_half o a b)
scalar_gives scalar.Add a b h g = exact_gives (a +ℤ b)
scalar_gives scalar.Sub a b h g = exact_gives (a -ℤ b)
scalar_gives scalar.Mul a b h g = exact_gives (a *ℤ b)
scalar_gives scalar.Div a b h g = unless_gives b (int_div a b)
scalar_gives scalar.Pow a b h g = power_gives a b
scalar_gives scalar.Eq a b h g = truth_word (int_eq a b)
scalar_gives scalar.Ne a b h g = truth_word (not (int_eq a b))
scalar_gives scalar.Lt a b h g = truth_word (int_lt a b)
scalar_gives scalar.Le a b h g = truth_word (int_le a b)
scalar_gives scalar.Gt a b h g = truth_word (int_lt b a)
scalar_gives scalar.Ge a b h g = truth_word (int_le b a)
scalar_gives scalar.And a b h g = truth_word (is_true a && is_true b)
scalar_gives scalar.Or a b h g = truth_word (is_true a || is_true b)
scalar_gives scalar.Eqv a b h g = truth_word (int_eq a b)
scalar_gives scalar.Neqv a b h g = truth_word (not (int_eq a b))
scalar_gives scalar.Mod a b h g = unless_gives b (int_rem a b)
scalar_gives scalar.Modulo a b h g = unless_gives b (floor_rem a b)
scalar_gives scalar.Min a b h g = if_word (int_le a b) a b h g
scalar_gives scalar.Max a b h g = if_word (int_le a b) b a g h

turned : (x : Exact) → Gives x → Gives (outcome (turn_of x))
turned (Ok z) h = h
turned (Err n) h = h

failed_if : (b : Bool) (n : FaultName) → Gives (outcome (if b then Fails n else Next (pos 0)))
failed_if true n = tt
failed_if false n = zero_word

number_word : (x : Exact) → Gives x → IsWord (number_in x)
number_word (Ok z) h = h
number_word (Err n) h = zero_word

with_word : (regs : List ℤ) (z : ℤ) → AllWords regs → IsWord z → AllWords (regs ++ z ∷ [])
with_word [] z h g zero = g
with_word [] z h g (suc r) = h r
with_word (x ∷ regs) z h g zero = h 0
with_word (x ∷ regs) z h g (suc r) = with_word regs z (λ q. h (suc q)) g r

digit_word : (a b c : ℤ) → IsWord a → pos 0 <ℤ b → IsWord (int_rem (int_div a b) c)
digit_word a b c h p = record { sfits = (let q = mag_rem (int_div a b) c in let f = (quot_fits w64 a b h p).sfits in omega (arith, q, f)) }

module _ (s : Scene) (p : ℕ) (words : HoldWords s.cells) (small : s.iteration p < 9223372036854775808) where
  op_gives : (regs : List ℤ) (op : Micro) → AllWords regs → IsPlain op × IsWordy op × ((z : ℤ) → In z (divisors s.cells op) → pos 0 <ℤ z) → Gives (outcome (turn (s.iteration p) s.cells regs op))
  op_gives regs (micro.Fixed z) h w = w.1
  op_gives regs micro.Position h w = small_word (s.iteration p) small
  op_gives regs (micro.Digit r b d) h w = digit_word (register regs r) (source s.cells b) (source s.cells d) (h r) (w.2 (source s.cells b) (inl refl))
  op_gives regs (micro.Load a) h w = sfits_to_z (record { fits = words _ })
  op_gives regs (micro.Unary o r) h w = turned (one_value default_half o (register regs r)) (one_gives o (register regs r) (h r))
  op_gives regs (micro.Binary o r t) h w = turned (scalar_value default_half o (register regs r) (register regs t)) (scalar_gives o (register regs r) (register regs t) (h r) (h t))
  op_gives regs (micro.Select r t u) h w = if_word (is_true (register regs r)) (register regs t) (register regs u) (h t) (h u)
  op_gives regs (micro.Gate r) h w = absurd w.0
  op_gives regs (micro.FailIf n r) h w = failed_if (is_true (register regs r)) n
  op_gives regs (micro.Store a r) h w = absurd w.0
  op_gives regs (micro.Least a r) h w = absurd w.0

  pub registers_are_words : (files : Files) (ops : List Micro) → AllWords (files p) → AreWordy s.cells ops → AllWords (with_ops s ops files p)
  registers_are_words files [] h w = h
  registers_are_words files (op ∷ ops) h w =
      registers_are_words (with_op s op files) ops (with_word (files p) (number_in (gives_at s files op p)) h (number_word (gives_at s files op p) (op_gives (files p) op h w.0))) w.1
