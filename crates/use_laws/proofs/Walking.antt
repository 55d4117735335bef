-- One lowering after another.
use Rattle.std.proofs.Common.{◌≡◌, refl, sym, ap, ◌∙◌, subst, inl, ℕ, ◌+◌, List, [], ◌∷◌, ◌++◌, length, Option, Some, None, arith, append_assoc}
use Rattle.std.specs.Prelude.{if◌then◌else◌, Bool, true, false}
use Rattle.hlfir_ops.specs.declared.kinds.ValueKind.{ValueKind}
use Rattle.hlfir_ops.specs.declared.what.What.{What}
use Rattle.hlfir_ops.specs.declared.op.ValueId.{ValueId}
use Rattle.hlfir_ops.specs.declared.op.Op.{Op, Op-F, out-roll-Op}
use Rattle.hlfir_ops.specs.declared.op.Region.{Region}
use Rattle.hlfir_ops.specs.Trees.{op_of}
use Rattle.hlfir_ops.specs.Numbers.{own_kinds, numbers_of, kinds_of, kinds_in}
use Rattle.hlfir_ops.specs.RulesPlaces.{own_defined}
use Rattle.hlfir_ops.proofs.NumberedKinds.{kinds_of-append}
use Rattle.hlfir_ops.proofs.Sites.{defined_by, defined_by-append}
use Rattle.lower_values.specs.declared.operand.Operand.{Operand}
use Rattle.lower_values.specs.Scopes.{Scope}
use Rattle.lower_values.specs.Lowerings.{Lowering, done, ◌>>=◌, scoped, giving, acting}
use Rattle.use_laws.proofs.Counting.{hits, IsArrayAt, array-first, array-rest}
use Rattle.use_laws.proofs.Defined.{in-after, AllIn, numbers, Grows, grows-more, all-grown}
use Rattle.use_laws.proofs.Uses.{Uses, kinds_of-length, uses-none, uses-append, Inner, inner-none, uses-op, op_kinds-is}

-- what these ops do, and the numbers that are held for later uses
pub record Walked (k n : ℕ) (D : List ℕ) (ops : List Op) (before : ℕ) (held : List ℕ) : Type 0 where
  pub uses : Uses k n D ops before (hits k held)
  pub defined : AllIn (D ++ defined_by n ops) held

-- the same of a lowering, where the number k, if it is given here, is that of an array expression
pub record Lowers {A : Type 0} (k : ℕ) (s : Scope) (n : ℕ) (D : List ℕ) (p : Lowering A) (before : ℕ) (held : A → List ℕ) : Type 0 where
  pub walked : IsArrayAt k n (kinds_of (p s n).ops) → Walked k n D (p s n).ops before (held (p s n).made)

-- what is held of the things that lowerings make
abbrev pub of_operand : Operand → List ℕ
of_operand x = x.value.number ∷ []

abbrev pub nothing_held : {A : Type 0} → A → List ℕ
nothing_held x = []

walked-append : (k n : ℕ) (D : List ℕ) (xs ys : List Op) (b f : ℕ) (held more : List ℕ) → IsArrayAt k n (kinds_of (xs ++ ys)) → (IsArrayAt k n (kinds_of xs) → Walked k n D xs b held) →
    (AllIn (D ++ defined_by n xs) held → IsArrayAt k (n + numbers_of xs) (kinds_of ys) → Walked k (n + numbers_of xs) (D ++ defined_by n xs) ys (hits k held + f) more) → Walked k n D (xs ++ ys) (b + f) more
walked-append k n D xs ys b f held more strict g h =
    let split : IsArrayAt k n (kinds_of xs ++ kinds_of ys) = subst (IsArrayAt k n) (kinds_of-append xs ys) strict in
    let first = g (array-first k n (kinds_of xs) (kinds_of ys) split) in
    let number : n + numbers_of xs ≡ n + length (kinds_of xs) = omega (arith, kinds_of-length xs) in
    let then' = h first.defined (array-rest k n (n + numbers_of xs) (kinds_of xs) (kinds_of ys) number split) in
    let order : numbers_of xs + n ≡ n + numbers_of xs = omega arith in
    let same : (D ++ defined_by n xs) ++ defined_by (n + numbers_of xs) ys ≡ D ++ defined_by n (xs ++ ys) =
    append_assoc D (defined_by n xs) (defined_by (n + numbers_of xs) ys) ∙ ap (λ l. D ++ l) (ap (λ m. defined_by n xs ++ defined_by m ys) (sym order) ∙ sym (defined_by-append n xs ys)) in
    record { uses = uses-append k n D xs ys b (hits k held) f (hits k more) first.uses then'.uses; defined = subst (λ l. AllIn l more) same then'.defined }

module _ (k : ℕ) (s : Scope) (n : ℕ) (D : List ℕ) where
  pub lowers-done : {A : Type 0} (x : A) (before : ℕ) (held : A → List ℕ) → AllIn D (held x) → before ≡ hits k (held x) → Lowers k s n D (done x) before held
  unfolding done
  lowers-done x before held h e = record {
    walked = λ strict. record {
      uses = subst (λ b. Uses k n D [] b (hits k (held x))) (sym e) (uses-none k n D (hits k (held x)));
      defined = all-grown D (D ++ []) (held x) (grows-more D []) h;
    };
  }

  -- q uses what p made, and what it was owed besides
  pub lowers-then : {A B : Type 0} (p : Lowering A) (q : A → Lowering B) (before b f : ℕ) (held : A → List ℕ) (more : B → List ℕ) → before ≡ b + f → Lowers k s n D p b held →
      ((x : A) (m : ℕ) (E : List ℕ) → Grows D E → AllIn E (held x) → Lowers k s m E (q x) (hits k (held x) + f) more) → Lowers k s n D (p >>= q) before more
  unfolding ◌>>=◌
  lowers-then p q before b f held more e g h = record {
    walked = λ strict.
        let xs = (p s n).ops in let x = (p s n).made in let m = n + numbers_of xs in let E = D ++ defined_by n xs in
        let ys = (q x s m).ops in let y = (q x s m).made in
        subst (λ c. Walked k n D (xs ++ ys) c (more y)) (sym e)
        (walked-append k n D xs ys b f (held x) (more y) strict g.walked (λ defined later. (h x m E (grows-more D (defined_by n xs)) defined).walked later));
  }

  -- the same where q knows what p made, and what its values are
  pub lowers-knowing : {A B : Type 0} (p : Lowering A) (q : A → Lowering B) (before b f : ℕ) (held : A → List ℕ) (more : B → List ℕ) → before ≡ b + f → Lowers k s n D p b held →
      ((m : ℕ) → IsArrayAt k n (kinds_of (p s n).ops) → AllIn (D ++ defined_by n (p s n).ops) (held (p s n).made) → Lowers k s m (D ++ defined_by n (p s n).ops) (q (p s n).made) (hits k (held (p s n).made) + f) more) →
      Lowers k s n D (p >>= q) before more
  unfolding ◌>>=◌
  lowers-knowing p q before b f held more e g h = record {
    walked = λ strict.
        let xs = (p s n).ops in let x = (p s n).made in let m = n + numbers_of xs in let ys = (q x s m).ops in let y = (q x s m).made in
        let own : IsArrayAt k n (kinds_of xs) = array-first k n (kinds_of xs) (kinds_of ys) (subst (IsArrayAt k n) (kinds_of-append xs ys) strict) in
        subst (λ c. Walked k n D (xs ++ ys) c (more y)) (sym e)
        (walked-append k n D xs ys b f (held x) (more y) strict g.walked (λ defined later. (h m own defined).walked later));
  }

  pub lowers-scoped : {A : Type 0} (f : Scope → Lowering A) (before : ℕ) (held : A → List ℕ) → Lowers k s n D (f s) before held → Lowers k s n D (scoped f) before held
  unfolding scoped
  lowers-scoped f before held h = record { walked = h.walked }

  pub lowers-by : {A : Type 0} (p : Lowering A) (b c : ℕ) (held : A → List ℕ) → b ≡ c → Lowers k s n D p b held → Lowers k s n D p c held
  lowers-by p b c held e h = subst (λ x. Lowers k s n D p x held) e h

  pub lowers-if : {A : Type 0} (t : Bool) (p q : Lowering A) (b : ℕ) (held : A → List ℕ) → Lowers k s n D p b held → Lowers k s n D q b held → Lowers k s n D (if t then p else q) b held
  lowers-if true p q b held g h = g
  lowers-if false p q b held g h = h

  -- ---- one op

  module _ (w : What) (line : ℕ) (operands : List ValueId) (regions : List Region) where
    own_defined-is : (kind : Option ValueKind) → defined_by n (op_of w line operands kind regions ∷ []) ≡ own_defined n kind ++ []
    own_defined-is kind = ap (λ (f : Op-F Op Region). own_defined n f.kind ++ []) (out-roll-Op (record { what = w; line = line; operands = operands; kind = kind; regions = regions }))

    pub op-inner : (kind : Option ValueKind) → IsArrayAt k n (kinds_of (op_of w line operands kind regions ∷ [])) → IsArrayAt k n (own_kinds kind ++ kinds_in w 0 regions)
    op-inner kind strict = subst (IsArrayAt k n) (op_kinds-is w line operands kind regions) strict

    pub walked-value : (kind : ValueKind) (b : ℕ) → AllIn D (numbers operands) → Inner k 0 (n + 1) D w regions b → Walked k n D (op_of w line operands (Some kind) regions ∷ []) (hits k (numbers operands) + b) (n ∷ [])
    walked-value kind b h inner = record {
      uses = uses-op w line operands (Some kind) regions k n D b h inner;
      defined = subst (λ l. AllIn (D ++ l) (n ∷ [])) (sym (own_defined-is (Some kind))) (in-after D (n ∷ []) n (inl refl), tt);
    }

    pub walked-act : (b : ℕ) → AllIn D (numbers operands) → Inner k 0 (n + 0) D w regions b → Walked k n D (op_of w line operands None regions ∷ []) (hits k (numbers operands) + b) []
    walked-act b h inner = record { uses = uses-op w line operands None regions k n D b h inner; defined = tt }

  pub lowers-giving : (w : What) (operands : List ValueId) (kind : ValueKind) (before : ℕ) → AllIn D (numbers operands) → before ≡ hits k (numbers operands) → Lowers k s n D (giving w operands kind) before of_operand
  unfolding giving
  lowers-giving w operands kind before h e = record {
    walked = λ strict.
        let total : hits k (numbers operands) + 0 ≡ before = omega (arith, e) in
        subst (λ b. Walked k n D (op_of w s.line operands (Some kind) [] ∷ []) b (n ∷ [])) total (walked-value w s.line operands [] kind 0 h (inner-none k 0 (n + 1) D w));
  }

  pub lowers-acting : (w : What) (operands : List ValueId) (before : ℕ) → AllIn D (numbers operands) → before ≡ hits k (numbers operands) → Lowers k s n D (acting w operands) before nothing_held
  unfolding acting
  lowers-acting w operands before h e = record {
    walked = λ strict.
        let total : hits k (numbers operands) + 0 ≡ before = omega (arith, e) in
        subst (λ b. Walked k n D (op_of w s.line operands None [] ∷ []) b []) total (walked-act w s.line operands [] 0 h (inner-none k 0 (n + 0) D w));
  }
