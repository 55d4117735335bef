-- What calm files exclude: that one failed, that one was too long, and an answer to one that is too long.
use Rattle.std.proofs.Common.{◌≡◌, ◌≤◌, ◌<◌, ◌⊎◌, refl, sym, ap, subst, ◌∙◌, ℕ, List, Option, Some, length, inl, inr, arith}
use Rattle.std.specs.Prelude.{IfSome}
use Rattle.ws_tree.specs.declared.stmt.Tree.{Tree}
use Rattle.ws_driver.specs.declared.answer.Answer.{Answer}
use Rattle.ws_driver.specs.declared.reading.TheConstants.{SOURCE_LIMIT, DATA_LIMIT}
use Rattle.ws_driver.specs.declared.request.Emit.{Emit}
use Rattle.ws_driver.specs.Request.{Asked, data_of, input_told}
use Rattle.ws_driver.specs.Sources.{IsSource, IsAccepted}
use Rattle.ws_driver.specs.Answers.{IsRead, IsGiven, IsRefusal, IsAnswerOf}
use Rattle.ws_driver.specs.Causes.{IsRunnable, Reads, SomeTooLong, SomeRose, IsCalm, AllWithin}
use Rattle.ws_driver.proofs.Once.{never_both}
use Rattle.ws_driver.proofs.Told.{at_file}

pub no_failure : (told : List ℕ → Option (List ℕ)) (before now : List ℕ → ℕ) (reads : List ℕ → ℕ → Type 0) → SomeRose before now reads → IsCalm told before now reads → ⊥
no_failure told before now reads h calm = calm.still h.0 h.1 h.2 h.3

pub no_excess : (told : List ℕ → Option (List ℕ)) (before now : List ℕ → ℕ) (reads : List ℕ → ℕ → Type 0) → SomeTooLong told reads → IsCalm told before now reads → AllWithin told reads → ⊥
no_excess told before now reads h calm within =
    let t = calm.tells h.0 h.1 h.2 in
    let long : h.1 < length t.0 = at_file (told h.0) t.0 (λ file. h.1 < length file) t.1 h.3 in
    let short : length t.0 ≤ h.1 = at_file (told h.0) t.0 (λ file. length file ≤ h.1) t.1 (within h.0 h.1 h.2) in
    omega (arith, long, short)

-- a file that was read whole is within its limit
read_within : (told : Option (List ℕ)) (limit : ℕ) (bytes file : List ℕ) → told ≡ Some file → IsRead told limit bytes → limit < length file → ⊥
read_within told limit bytes file is read long =
    let same : bytes ≡ file = at_file told file (λ f. bytes ≡ f) is read.whole in
    let short : length file ≤ limit = subst (λ b. length b ≤ limit) same read.within in
    omega (arith, long, short)

-- an accepted source was answered for data within the limit
input_within : (emit : Emit) (input : Option (List ℕ)) (a : Answer) (text bytes file : List ℕ) → IsAccepted bytes → input ≡ Some file → DATA_LIMIT < length file →
    ((t : Tree) × IsSource bytes t × IsGiven emit t input a text) ⊎ IsRefusal bytes a text → ⊥
input_within emit input a text bytes file accepted is long (inl h) = read_within input DATA_LIMIT h.2.taken file is h.2.read long
input_within emit input a text bytes file accepted is long (inr h) = never_both bytes h.0 accepted.0 h.1 accepted.1

within_limit : (told : List ℕ → Option (List ℕ)) (r : Asked) (a : Answer) (text name file : List ℕ) (limit : ℕ) → IsAnswerOf told r a text →
    ((name : List ℕ) (limit : ℕ) → Reads told r name limit → (f : List ℕ) × (told name ≡ Some f)) → told name ≡ Some file → limit < length file → Reads told r name limit → ⊥
within_limit told r a text name file limit h tells is long (inl e) =
    read_within (told r.source) SOURCE_LIMIT h.bytes file (ap told e.0 ∙ is) h.read (subst (λ n. n < length file) e.1 long)
within_limit told r a text name file limit h tells is long (inr e) =
    let source = tells r.source SOURCE_LIMIT (inl (refl, refl)) in
    let accepted : IsAccepted source.0 = (at_file (told r.source) source.0 IsRunnable source.1 e.1).1 in
    let same : h.bytes ≡ source.0 = at_file (told r.source) source.0 (λ f. h.bytes ≡ f) source.1 h.read.whole in
    input_within r.emit (input_told told (data_of r)) a text h.bytes file (subst IsAccepted (sym same) accepted) (ap (input_told told) e.0.0 ∙ is) (subst (λ n. n < length file) e.0.1 long) h.is

-- where a file is too long there is no answer for what was read
pub none_over_long : (told : List ℕ → Option (List ℕ)) (before now : List ℕ → ℕ) (r : Asked) (a : Answer) (text : List ℕ) → IsAnswerOf told r a text → SomeTooLong told (Reads told r) → IsCalm told before now (Reads told r) → ⊥
none_over_long told before now r a text h long calm =
    let t = calm.tells long.0 long.1 long.2 in
    within_limit told r a text long.0 t.0 long.1 h calm.tells t.1 (at_file (told long.0) t.0 (λ file. long.1 < length file) t.1 long.3) long.2
