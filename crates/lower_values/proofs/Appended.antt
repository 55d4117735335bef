-- Lowerings one after another, and the ops that they append.
use Rattle.std.proofs.Common.{◌≡◌, refl, sym, ap, ◌∙◌, subst, ℕ, ◌+◌, List, [], ◌∷◌, ◌++◌, Some, None, Result, Ok, Err, append_assoc, append-nil, add_assoc, add-zero}
use Rattle.std.specs.Prelude.{IfOk}
use Rattle.hlfir_ops.specs.declared.kinds.ValueKind.{ValueKind}
use Rattle.hlfir_ops.specs.declared.what.What.{What}
use Rattle.hlfir_ops.specs.declared.op.ValueId.{ValueId}
use Rattle.hlfir_ops.specs.declared.op.Op.{Op}
use Rattle.hlfir_ops.specs.declared.op.Region.{Region}
use Rattle.hlfir_ops.specs.Trees.{op_of}
use Rattle.hlfir_ops.specs.Numbers.{numbers_of}
use Rattle.hlfir_ops.specs.Built.{Built, taken_around, taken, line_around}
use Rattle.hlfir_ops.proofs.Numbered.{numbers_of-append}
use Rattle.lower_values.specs.declared.names.Names.{Names}
use Rattle.lower_values.specs.Scopes.{Scope, scope_at}
use Rattle.lower_values.specs.Lowerings.{Lowered, Lowering, done, ◌>>=◌, scoped, giving, acting, grown, Appends}

-- ---- a builder with more ops

pub grown-none : (b : Built) → grown b [] ≡ b
grown-none b = ap (λ ops. record { name = b.name; around = b.around; ops = ops }) (append-nil b.ops)

grown-grown : (b : Built) (xs ys : List Op) → grown (grown b xs) ys ≡ grown b (xs ++ ys)
grown-grown b xs ys = ap (λ ops. record { name = b.name; around = b.around; ops = ops }) (append_assoc b.ops xs ys)

pub taken-grown : (b : Built) (ops : List Op) → taken (grown b ops) ≡ taken b + numbers_of ops
taken-grown b ops = ap (λ n. taken_around b.around + n) (numbers_of-append b.ops ops) ∙ sym (add_assoc (taken_around b.around) (numbers_of b.ops) (numbers_of ops))

-- ---- one after another

pub appends-done : {A : Type 0} (names : Names) (b : Built) (x : A) → Appends names (done x) b b x
unfolding done
appends-done names b x = record { ops = sym (grown-none b); made = refl }

pub appends-next : {A B : Type 0} (names : Names) (p : Lowering A) (q : A → Lowering B) (old mid new : Built) (x : A) (y : B) → Appends names p old mid x → Appends names (q x) mid new y → Appends names (p >>= q) old new y
unfolding ◌>>=◌
appends-next names p q old mid new x y first second =
    let s = scope_at names old.around in
    let r : Lowered _ = p s (taken old) in
    let around : mid.around ≡ old.around = ap (λ b. b.around) first.ops in
    let number : taken mid ≡ taken old + numbers_of r.ops = ap taken first.ops ∙ taken-grown old r.ops in
    let same : q x (scope_at names mid.around) (taken mid) ≡ q r.made s (taken old + numbers_of r.ops) =
    ap (λ z. q z (scope_at names mid.around) (taken mid)) first.made ∙ (ap (λ l. q r.made (scope_at names l) (taken mid)) around ∙ ap (q r.made s) number) in
    let more = (q r.made s (taken old + numbers_of r.ops)).ops in
    record {
      ops = second.ops ∙ (ap (λ l. grown mid l.ops) same ∙ (ap (λ b. grown b more) first.ops ∙ grown-grown old r.ops more));
      made = second.made ∙ ap (λ l. l.made) same;
    }

-- what is made is changed without more ops
pub appends-map : {A B : Type 0} (names : Names) (p : Lowering A) (f : A → B) (old new : Built) (x : A) → Appends names p old new x → Appends names (p >>= (λ z. done (f z))) old new (f x)
appends-map names p f old new x first = appends-next names p (λ z. done (f z)) old new new x (f x) first (appends-done names new (f x))

pub appends-scoped : {A : Type 0} (names : Names) (f : Scope → Lowering A) (old new : Built) (x : A) → Appends names (f (scope_at names old.around)) old new x → Appends names (scoped f) old new x
unfolding scoped
appends-scoped names f old new x h = record { ops = h.ops; made = h.made }

-- ---- at the place of a builder the first lowering is as the second one

pub appends-as : {A : Type 0} (names : Names) (p q : Lowering A) (old new : Built) (x : A) → p (scope_at names old.around) (taken old) ≡ q (scope_at names old.around) (taken old) → Appends names p old new x → Appends names q old new x
appends-as names p q old new x same h = record { ops = h.ops ∙ ap (λ l. grown old l.ops) same; made = h.made ∙ ap (λ l. l.made) same }

pub done-next : {A B : Type 0} (x : A) (q : A → Lowering B) (s : Scope) (n : ℕ) → (done x >>= q) s n ≡ q x s n
unfolding done ◌>>=◌
done-next x q s n = ap (q x s) (add-zero n)

-- ---- ops without regions

pub appends-giving : {names : Names} (w : What) (operands : List ValueId) {kind : ValueKind} {line : ℕ} {regions : List Region} {old new : Built} {id : ValueId} → line ≡ line_around old.around → regions ≡ [] → id.number ≡ taken old →
    new ≡ grown old (op_of w line operands (Some kind) regions ∷ []) → Appends names (giving w operands kind) old new (record { value = id; kind = kind })
unfolding giving
appends-giving w operands {kind} {line} {old = old} here none number is = record {
  ops = is ∙ (ap (λ rs. grown old (op_of w line operands (Some kind) rs ∷ [])) none ∙ ap (λ l. grown old (op_of w l operands (Some kind) [] ∷ [])) here);
  made = ap (λ m. record { value = record { number = m }; kind = kind }) number;
}

pub appends-acting : {names : Names} (w : What) (operands : List ValueId) {line : ℕ} {regions : List Region} {old new : Built} → line ≡ line_around old.around → regions ≡ [] → new ≡ grown old (op_of w line operands None regions ∷ []) →
    Appends names (acting w operands) old new tt
unfolding acting
appends-acting w operands {line} {old = old} here none is = record {
  ops = is ∙ (ap (λ rs. grown old (op_of w line operands None rs ∷ [])) none ∙ ap (λ l. grown old (op_of w l operands None [] ∷ [])) here);
  made = refl;
}

-- ---- another spelling of a lowering, and of what it makes

pub appends-by : {A : Type 0} {names : Names} {p q : Lowering A} {old new : Built} {x y : A} → p ≡ q → x ≡ y → Appends names p old new x → Appends names q old new y
appends-by {A} {names} {p} {q} {old} {new} {x} {y} same made h =
    let P : Lowering A → Type 0 = λ l. Appends names l old new y in
    let Q : A → Type 0 = λ z. Appends names p old new z in
    subst P same (subst Q made h)

-- ---- results, of which want of memory is free

pub if-map : {A E : Type 0} (r : Result A E) {P Q : A → Type 0} → ((x : A) → P x → Q x) → IfOk r P → IfOk r Q
if-map (Ok x) f h = f x h
if-map (Err e) f h = h

-- whatever the names are
abbrev pub IfAppends : {A E : Type 0} → Result A E → Lowering A → Built → Built → Type 0
IfAppends r p old new = IfOk r (λ x. (names : Names) → Appends names p old new x)

abbrev pub IfAppendsIn : {A E : Type 0} → Names → Result A E → Lowering A → Built → Built → Type 0
IfAppendsIn names r p old new = IfOk r (λ x. Appends names p old new x)

pub if-by : {A E : Type 0} (r : Result A E) (old new : Built) {p q : Lowering A} → p ≡ q → IfAppends r p old new → IfAppends r q old new
if-by r old new same = if-map r (λ x h names. appends-by same refl (h names))

pub if-in : {A E : Type 0} (names : Names) (r : Result A E) (old new : Built) {p q : Lowering A} → p ≡ q → IfAppends r p old new → IfAppendsIn names r q old new
if-in names r old new same = if-map r (λ x h. appends-by same refl (h names))

pub if-next : {A B E : Type 0} (r : Result B E) (p : Lowering A) (q : A → Lowering B) (old mid new : Built) (x : A) → ((names : Names) → Appends names p old mid x) → IfAppends r (q x) mid new → IfAppends r (p >>= q) old new
if-next r p q old mid new x first = if-map r (λ y h names. appends-next names p q old mid new x y (first names) (h names))

pub if-next-in : {A B E : Type 0} (names : Names) (r : Result B E) (p : Lowering A) (q : A → Lowering B) (old mid new : Built) (x : A) → Appends names p old mid x → IfAppends r (q x) mid new → IfAppendsIn names r (p >>= q) old new
if-next-in names r p q old mid new x first = if-map r (λ y h. appends-next names p q old mid new x y first (h names))

pub ruleset done_rules = (appends-done)
