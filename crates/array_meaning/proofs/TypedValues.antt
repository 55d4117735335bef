-- The values of a term of a type are values of that type.
use Rattle.std.proofs.Common.{◌≡◌, refl, ℕ, suc, Bool, true, false, List, [], ◌∷◌, map, All, Result, Ok, Err, IfOk, ℤ, pos, negsuc}
use Rattle.std.specs.Prelude.{not, ◌&&◌, ◌||◌, if◌then◌else◌, int_le, int_lt, int_div, int_rem, unsigned_abs, neg_ℤ, ◌+ℤ◌, ◌-ℤ◌, ◌*ℤ◌}
use Rattle.std.specs.Int.{int_pow}
use Rattle.std.proofs.lemmas.List.Elements.{All-nil, All-cons, All-head, All-tail}
use Rattle.ws_base.specs.declared.fault.FaultName.{FaultName}
use Rattle.ws_base.specs.declared.fault.FaultName.TheVariants.{Overflow, DivideByZero}
use Rattle.ws_base.specs.declared.op.BinOp.{BinOp}
use Rattle.ws_base.specs.declared.op.BinOp.TheVariants.{Add, Sub, Mul, Div, Pow, Eq, Ne, Lt, Le, Gt, Ge, And, Or, Eqv, Neqv}
use Rattle.ws_base.specs.declared.op.UnOp.TheVariants as un
use Rattle.ws_base.specs.declared.op.CallWord.{CallWord}
use Rattle.ws_base.specs.declared.op.CallWord.TheVariants as word
use Rattle.ws_base.specs.Numbers.{int_eq, truth, is_true, in_range, default_half, exact, unless_zero, power, floor_rem, int_min, int_max, least, greatest, unary_value, binary_value, call_value}
use Rattle.ws_base.specs.Outcomes.{Staged, ◌>>=◌, joined, each, rows, pair_up}
use Rattle.ws_space.specs.declared.state.ArrayValue.{ArrayValue}
use Rattle.ws_space.specs.Shapes.{dims, place}
use Rattle.ws_space.specs.Values.{value_at, element}
use Rattle.ws_space.specs.Maps.{pair_value}
use Rattle.ws_types.specs.Operations.{gives_truth}
use Rattle.array_meaning.specs.declared.term.Term.TheVariants.{Scalar, Listed, Section', Call'}
use Rattle.array_meaning.specs.Terms.{Terms, end_terms, more_terms, unary_term, binary_term}
use Rattle.array_meaning.specs.Stage2.{values, all_values, columns}
use Rattle.array_meaning.specs.Laws.{HaveType, FirstTwoHaveType, TypedTermsGiveValues}
use Rattle.array_meaning.proofs.Chains.{after_each, after_fact}
use Rattle.array_meaning.proofs.KeptValues.{Passes, zero_passes, value_at-passes, either}

-- ---- single values

if_in_range : (z : ℤ) (c : Bool) → in_range default_half z ≡ c → IfOk (if c then Ok z else Err Overflow) (Passes false)
if_in_range z true e = e
if_in_range z false e = tt

pub exact-passes : (z : ℤ) → IfOk (exact default_half z) (Passes false)
exact-passes z = if_in_range z (in_range default_half z) refl

unless_zero-passes : (b z : ℤ) → IfOk (unless_zero default_half b z) (Passes false)
unless_zero-passes b z = at_test (int_eq b (pos 0)) where
  at_test : (c : Bool) → IfOk (if c then Err DivideByZero else exact default_half z) (Passes false)
  at_test true = tt
  at_test false = exact-passes z

power-passes : (a b : ℤ) → IfOk (power default_half a b) (Passes false)
power-passes a (pos n) = exact-passes (int_pow a n)
power-passes a (negsuc n) = let b = int_pow a (suc n) in unless_zero-passes b (int_div (pos 1) b)

pub truth-passes : (b : Bool) → Passes true (truth b)
truth-passes true = refl
truth-passes false = refl

pub binary-passes : (op : BinOp) (a b : ℤ) → IfOk (binary_value default_half op a b) (Passes (gives_truth op))
binary-passes Add a b = exact-passes (a +ℤ b)
binary-passes Sub a b = exact-passes (a -ℤ b)
binary-passes Mul a b = exact-passes (a *ℤ b)
binary-passes Div a b = unless_zero-passes b (int_div a b)
binary-passes Pow a b = power-passes a b
binary-passes Eq a b = truth-passes (int_eq a b)
binary-passes Ne a b = truth-passes (not (int_eq a b))
binary-passes Lt a b = truth-passes (int_lt a b)
binary-passes Le a b = truth-passes (int_le a b)
binary-passes Gt a b = truth-passes (int_lt b a)
binary-passes Ge a b = truth-passes (int_le b a)
binary-passes And a b = truth-passes (is_true a && is_true b)
binary-passes Or a b = truth-passes (is_true a || is_true b)
binary-passes Eqv a b = truth-passes (int_eq a b)
binary-passes Neqv a b = truth-passes (not (int_eq a b))

pub pair-passes : (op : BinOp) (r : List ℤ) → IfOk (pair_value op r) (Passes (gives_truth op))
pair-passes op [] = zero_passes (gives_truth op)
pair-passes op (a ∷ []) = zero_passes (gives_truth op)
pair-passes op (a ∷ b ∷ []) = binary-passes op a b
pair-passes op (a ∷ b ∷ c ∷ r) = zero_passes (gives_truth op)

pub least-passes : (b : Bool) (a : ℤ) (xs : List ℤ) → Passes b a → All (Passes b) xs → Passes b (least a xs)
least-passes b a [] h is = h
least-passes b a (x ∷ xs) h is = least-passes b (int_min a x) xs (either b (int_le a x) a x h (All-head (Passes b) x xs is)) (All-tail (Passes b) x xs is)

pub greatest-passes : (b : Bool) (a : ℤ) (xs : List ℤ) → Passes b a → All (Passes b) xs → Passes b (greatest a xs)
greatest-passes b a [] h is = h
greatest-passes b a (x ∷ xs) h is = greatest-passes b (int_max a x) xs (either b (int_le a x) x a (All-head (Passes b) x xs is) h) (All-tail (Passes b) x xs is)

-- ---- maps

joined-passes : {B : Type 0} (P : B → Type 0) (r : Result B FaultName) (rest : Staged (List B)) → IfOk r P → IfOk rest (All P) → IfOk (joined r rest) (All P)
joined-passes P (Err n) rest h hs = tt
joined-passes P (Ok y) (Ok ys) h hs = All-cons P y ys h hs
joined-passes P (Ok y) (Err t) h hs = tt

pub each-passes : {A B : Type 0} (Q : A → Type 0) (P : B → Type 0) (f : A → Result B FaultName) → ((x : A) → Q x → IfOk (f x) P) → (xs : List A) → All Q xs → IfOk (each f xs) (All P)
each-passes Q P f h [] is = All-nil P
each-passes Q P f h (x ∷ xs) is = joined-passes P (f x) (each f xs) (h x (All-head Q x xs is)) (each-passes Q P f h xs (All-tail Q x xs is))

pub each-all : {A B : Type 0} (P : B → Type 0) (f : A → Result B FaultName) → ((x : A) → IfOk (f x) P) → (xs : List A) → IfOk (each f xs) (All P)
each-all P f h [] = All-nil P
each-all P f h (x ∷ xs) = joined-passes P (f x) (each f xs) (h x) (each-all P f h xs)

pub map-all : {A B : Type 0} (P : B → Type 0) (f : A → B) → ((x : A) → P (f x)) → (xs : List A) → All P (map f xs)
map-all P f h [] = All-nil P
map-all P f h (x ∷ xs) = All-cons P (f x) (map f xs) (h x) (map-all P f h xs)

-- ---- rows

pair_up-all : {A : Type 0} (P : A → Type 0) (Q R : List A → Type 0) → ((x : A) (r : List A) → P x → Q r → R (x ∷ r)) → (c : List A) (rs : List (List A)) → All P c → All Q rs → All R (pair_up c rs)
pair_up-all P Q R join [] rs h is = All-nil R
pair_up-all P Q R join (x ∷ c) [] h is = All-nil R
pair_up-all P Q R join (x ∷ c) (r ∷ rs) h is =
    All-cons R (x ∷ r) (pair_up c rs) (join x r (All-head P x c h) (All-head Q r rs is)) (pair_up-all P Q R join c rs (All-tail P x c h) (All-tail Q r rs is))

pub rows-all : (b : Bool) {X : Type 0} (at : List X) (cs : List (List ℤ)) → All (All (Passes b)) cs → All (All (Passes b)) (rows at cs)
rows-all b at [] is = map-all (All (Passes b)) (λ _. []) (λ _. All-nil (Passes b)) at
rows-all b at (c ∷ cs) is =
    pair_up-all (Passes b) (All (Passes b)) (All (Passes b)) (λ x r h hs. All-cons (Passes b) x r h hs) c (rows at cs) (All-head (All (Passes b)) c cs is) (rows-all b at cs (All-tail (All (Passes b)) c cs is))

-- the first two of a row, where it has them
abbrev pub FirstTwo : Bool → List ℤ → Type 0
FirstTwo b (x ∷ y ∷ r) = Passes b x × Passes b y
FirstTwo b _ = Unit {0}

abbrev First : Bool → List ℤ → Type 0
First b (x ∷ r) = Passes b x
First b [] = Unit {0}

abbrev Any : List ℤ → Type 0
Any r = Unit {0}

pub first_two : (b : Bool) (r : List ℤ) → All (Passes b) r → FirstTwo b r
first_two b [] is = tt
first_two b (x ∷ []) is = tt
first_two b (x ∷ y ∷ r) is = (All-head (Passes b) x (y ∷ r) is, All-head (Passes b) y r (All-tail (Passes b) x (y ∷ r) is))

second_of : (b : Bool) (x : ℤ) (r : List ℤ) → Passes b x → First b r → FirstTwo b (x ∷ r)
second_of b x [] h g = tt
second_of b x (y ∷ r) h g = (h, g)

any-all : (rs : List (List ℤ)) → All Any rs
any-all [] = All-nil Any
any-all (r ∷ rs) = All-cons Any r rs tt (any-all rs)

rows-first_two : (b : Bool) {X : Type 0} (at : List X) (c d : List ℤ) (cs : List (List ℤ)) → All (Passes b) c → All (Passes b) d → All (FirstTwo b) (rows at (c ∷ d ∷ cs))
rows-first_two b at c d cs h g =
    pair_up-all (Passes b) (First b) (FirstTwo b) (λ x r p q. second_of b x r p q) c (rows at (d ∷ cs)) h
    (pair_up-all (Passes b) Any (First b) (λ x r p q. p) d (rows at cs) g (any-all (rows at cs)))

abbrev FirstColumn : Bool → List (List ℤ) → Type 0
FirstColumn b (c ∷ cs) = All (Passes b) c
FirstColumn b [] = ⊥

abbrev FirstColumns : Bool → List (List ℤ) → Type 0
FirstColumns b (c ∷ d ∷ cs) = All (Passes b) c × All (Passes b) d
FirstColumns b _ = ⊥

columns_of : (b : Bool) (c : List ℤ) (cs : List (List ℤ)) → All (Passes b) c → FirstColumn b cs → FirstColumns b (c ∷ cs)
columns_of b c [] h g = absurd g
columns_of b c (d ∷ cs) h g = (h, g)

rows_from : (b : Bool) {X : Type 0} (at : List X) (cs : List (List ℤ)) → FirstColumns b cs → All (FirstTwo b) (rows at cs)
rows_from b at [] h = absurd h
rows_from b at (c ∷ []) h = absurd h
rows_from b at (c ∷ d ∷ cs) h = rows-first_two b at c d cs h.0 h.1

-- ---- calls

call-integer : (w : CallWord) (b : Bool) (r : List ℤ) → b ≡ false → IfOk (call_value default_half w r) (Passes false) → IfOk (call_value default_half w r) (Passes b)
call-integer w b r e h = rw e h

pub min-passes : (b : Bool) (r : List ℤ) → All (Passes b) r → IfOk (call_value default_half word.Min r) (Passes b)
min-passes b [] is = zero_passes b
min-passes b (a ∷ r) is = least-passes b a r (All-head (Passes b) a r is) (All-tail (Passes b) a r is)

pub max-passes : (b : Bool) (r : List ℤ) → All (Passes b) r → IfOk (call_value default_half word.Max r) (Passes b)
max-passes b [] is = zero_passes b
max-passes b (a ∷ r) is = greatest-passes b a r (All-head (Passes b) a r is) (All-tail (Passes b) a r is)

pub merge-passes : (b : Bool) (r : List ℤ) → FirstTwo b r → IfOk (call_value default_half word.Merge r) (Passes b)
merge-passes b [] is = zero_passes b
merge-passes b (t ∷ []) is = zero_passes b
merge-passes b (t ∷ f ∷ []) is = zero_passes b
merge-passes b (t ∷ f ∷ m ∷ []) is = either b (is_true m) t f is.0 is.1
merge-passes b (t ∷ f ∷ m ∷ x ∷ r) is = zero_passes b

pub abs-passes : (r : List ℤ) → IfOk (call_value default_half word.Abs r) (Passes false)
abs-passes [] = refl
abs-passes (a ∷ []) = exact-passes (pos (unsigned_abs a))
abs-passes (a ∷ b ∷ r) = refl

pub mod-passes : (r : List ℤ) → IfOk (call_value default_half word.Mod r) (Passes false)
mod-passes [] = refl
mod-passes (a ∷ []) = refl
mod-passes (a ∷ b ∷ []) = unless_zero-passes b (int_rem a b)
mod-passes (a ∷ b ∷ c ∷ r) = refl

pub modulo-passes : (r : List ℤ) → IfOk (call_value default_half word.Modulo r) (Passes false)
modulo-passes [] = refl
modulo-passes (a ∷ []) = refl
modulo-passes (a ∷ b ∷ []) = unless_zero-passes b (floor_rem a b)
modulo-passes (a ∷ b ∷ c ∷ r) = refl

pub element-passes : (b : Bool) (a : ArrayValue) (is : List ℤ) → All (Passes b) a.values → IfOk (element a is) (Passes b)
element-passes b a is h = after_each _ (place (dims a.shape) is) _ (λ p. value_at-passes b a.values p h)

call-all : {m : _} (b : Bool) (w : CallWord) (ts : Terms m) (at : List ℕ) → b ≡ false → ((r : List ℤ) → IfOk (call_value default_half w r) (Passes false)) →
    IfOk (all_values ts at >>= (λ xs. each (call_value default_half w) (rows at xs))) (All (Passes b))
call-all b w ts at e h = after_each _ (all_values ts at) _ (λ xs. each-all (Passes b) (call_value default_half w) (λ r. call-integer w b r e (h r)) (rows at xs))

-- ---- terms

mutual
  pub law : TypedTermsGiveValues
  law b (Scalar v) h at = map-all (Passes b) (λ _. v) (λ _. h) at
  law b (Listed xs) h at = map-all (Passes b) (value_at xs) (λ p. value_at-passes b xs p h) at
  law b (Section' a _ ps) h at = after_each _ (columns ps at) _ (λ cs. each-all (Passes b) (element a) (λ is. element-passes b a is h) (rows at cs))
  law b (unary_term un.Minus t) h at = rw h (after_each _ (values t at) _ (λ xs. each-all (Passes false) (unary_value default_half un.Minus) (λ x. exact-passes (neg_ℤ x)) xs))
  law b (unary_term un.Plus t) h at = after_fact (All (Passes b)) _ (values t at) _ (law b t h at) (λ xs is. each-passes (Passes b) (Passes b) (unary_value default_half un.Plus) (λ x p. p) xs is)
  law b (unary_term un.Not t) h at = rw h (after_each _ (values t at) _ (λ xs. each-all (Passes true) (unary_value default_half un.Not) (λ x. truth-passes (not (is_true x))) xs))
  law b (binary_term op t u) h at = rw h (after_each _ (values t at) _ (λ xs. after_each _ (values u at) _ (λ ys. each-all (Passes (gives_truth op)) (pair_value op) (pair-passes op) (rows at (xs ∷ ys ∷ [])))))
  law b (Call' word.Min _ ts) h at =
      after_fact (All (All (Passes b))) _ (all_values ts at) _ (all-law b ts h.1 at) (λ xs is. each-passes (All (Passes b)) (Passes b) (call_value default_half word.Min) (min-passes b) (rows at xs) (rows-all b at xs is))
  law b (Call' word.Max _ ts) h at =
      after_fact (All (All (Passes b))) _ (all_values ts at) _ (all-law b ts h.1 at) (λ xs is. each-passes (All (Passes b)) (Passes b) (call_value default_half word.Max) (max-passes b) (rows at xs) (rows-all b at xs is))
  law b (Call' word.Merge _ ts) h at = merge-law b ts h at
  law b (Call' word.Abs _ ts) h at = call-all b word.Abs ts at h abs-passes
  law b (Call' word.Mod _ ts) h at = call-all b word.Mod ts at h mod-passes
  law b (Call' word.Modulo _ ts) h at = call-all b word.Modulo ts at h modulo-passes
  law b (Call' word.Sum _ ts) h at = call-all b word.Sum ts at h (λ r. refl)
  law b (Call' word.Product _ ts) h at = call-all b word.Product ts at h (λ r. refl)
  law b (Call' word.Minval _ ts) h at = call-all b word.Minval ts at h (λ r. refl)
  law b (Call' word.Maxval _ ts) h at = call-all b word.Maxval ts at h (λ r. refl)
  law b (Call' word.Count _ ts) h at = call-all b word.Count ts at h (λ r. refl)
  law b (Call' word.Any _ ts) h at = call-all b word.Any ts at h (λ r. refl)
  law b (Call' word.All _ ts) h at = call-all b word.All ts at h (λ r. refl)
  law b (Call' word.Size _ ts) h at = call-all b word.Size ts at h (λ r. refl)
  law b (Call' word.Lbound _ ts) h at = call-all b word.Lbound ts at h (λ r. refl)
  law b (Call' word.Ubound _ ts) h at = call-all b word.Ubound ts at h (λ r. refl)
  law b (Call' word.Allocated _ ts) h at = call-all b word.Allocated ts at h (λ r. refl)

  all-law : {m : _} (b : Bool) (ts : Terms m) → HaveType b ts → (at : List ℕ) → IfOk (all_values ts at) (All (All (Passes b)))
  all-law b end_terms h at = All-nil (All (Passes b))
  all-law b (more_terms t ts) h at =
      after_fact (All (Passes b)) _ (values t at) _ (law b t h.0 at) (λ xs is. after_fact (All (All (Passes b))) _ (all_values ts at) _ (all-law b ts h.1 at) (λ rest are. All-cons (All (Passes b)) xs rest is are))

  merge-law : {m : _} (b : Bool) (ts : Terms m) → FirstTwoHaveType b ts → (at : List ℕ) → IfOk (all_values ts at >>= (λ xs. each (call_value default_half word.Merge) (rows at xs))) (All (Passes b))
  merge-law b end_terms h at = absurd h
  merge-law b (more_terms t end_terms) h at = absurd h
  merge-law b (more_terms t (more_terms u ts)) h at =
      after_fact (FirstColumns b) _ (all_values (more_terms t (more_terms u ts)) at) _
      (after_fact (All (Passes b)) _ (values t at) _ (law b t h.0 at) (λ xs is.
      after_fact (FirstColumn b) _ (all_values (more_terms u ts) at) _
      (after_fact (All (Passes b)) _ (values u at) _ (law b u h.1 at) (λ ys are. after_each _ (all_values ts at) _ (λ rest. are)))
      (λ rest are. columns_of b xs rest is are)))
      (λ xs is. each-passes (FirstTwo b) (Passes b) (call_value default_half word.Merge) (merge-passes b) (rows at xs) (rows_from b at xs is))
