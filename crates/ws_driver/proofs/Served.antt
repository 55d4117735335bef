-- How a request is served, by the way in which the call ends.
use Rattle.std.proofs.Common.{◌≡◌, ◌⊎◌, refl, sym, subst, ℕ, List, Option, inl, inr}
use Rattle.ws_io.specs.Bytes.{told_then, WritesPrefix}
use Rattle.ws_io.specs.Causes.{Rose}
use Rattle.ws_io.specs.declared.whole.ReadEnd.{ReadEnd}
use Rattle.ws_io.specs.declared.whole.ReadEnd.TheVariants as read
use Rattle.ws_tree.specs.declared.stmt.Tree.{Tree}
use Rattle.ws_space.specs.declared.state.Ended.{Ended}
use Rattle.ws_space.specs.declared.state.Ended.TheVariants as ended
use Rattle.ws_driver.specs.declared.answer.Answer.{Answer}
use Rattle.ws_driver.specs.declared.answer.Status.{Status}
use Rattle.ws_driver.specs.declared.answer.Status.TheVariants as statuses
use Rattle.ws_driver.specs.declared.request.Emit.{Emit}
use Rattle.ws_driver.specs.declared.request.Emit.TheVariants as emits
use Rattle.ws_driver.specs.Request.{Asked}
use Rattle.ws_driver.specs.Sources.{IsSource}
use Rattle.ws_driver.specs.Causes.{Reads, IsUnread, unread_answer}
use Rattle.ws_driver.specs.Answers.{meaning, end_answer, answer_to, IsGiven, IsRefusal, IsAnswerOf, Outside, IsWhole, IsServed}
use Rattle.ws_driver.proofs.Excluded.{no_failure, no_excess, none_over_long}

-- ---- a file was not read

at_end : (r : Asked) (o : Outside) (end : ReadEnd) → o.written_now ≡ o.written_before → IsUnread o.told o.faults_before o.faults_now (Reads o.told r) end → IsServed r o (unread_answer end)
at_end r o read.Failed same h = record {
  no_usage = λ e. cc;
  whole = λ w. absurd w;
  write_fault = λ e. absurd cc;
  prefix = λ e. absurd cc;
  silent = λ w e. (same, refl);
  too_long = λ e. absurd cc;
  read_fault = λ e. h;
  complete = λ calm within still. absurd (no_failure o.told o.faults_before o.faults_now (Reads o.told r) h calm);
  over_long = λ long calm. absurd (no_failure o.told o.faults_before o.faults_now (Reads o.told r) h calm);
}
at_end r o read.TooLong same h = record {
  no_usage = λ e. cc;
  whole = λ w. absurd w;
  write_fault = λ e. absurd cc;
  prefix = λ e. absurd cc;
  silent = λ w e. (same, refl);
  too_long = λ e. h;
  read_fault = λ e. absurd cc;
  complete = λ calm within still. absurd (no_excess o.told o.faults_before o.faults_now (Reads o.told r) h calm within);
  over_long = λ long calm. inl refl;
}
at_end r o read.Memory same h = record {
  no_usage = λ e. cc;
  whole = λ w. absurd w;
  write_fault = λ e. absurd cc;
  prefix = λ e. absurd cc;
  silent = λ w e. (same, refl);
  too_long = λ e. absurd cc;
  read_fault = λ e. absurd cc;
  complete = λ calm within still. inr refl;
  over_long = λ long calm. inr refl;
}

-- nothing is written
pub unread : (r : Asked) (o : Outside) (answer : Answer) (end : ReadEnd) → answer ≡ unread_answer end → o.written_now ≡ o.written_before → IsUnread o.told o.faults_before o.faults_now (Reads o.told r) end → IsServed r o answer
unread r o answer end is same h = subst (λ (a : Answer). IsServed r o a) (sym is) (at_end r o end same h)

-- ---- there is an answer, with its text

end_whole : (e : Ended) → IsWhole (end_answer e).status
end_whole (ended.Done s) = tt
end_whole (ended.Faulted f) = tt

given_whole : (emit : Emit) (t : Tree) (input : List ℕ) → IsWhole (answer_to emit t input).status
given_whole emits.Run t input = end_whole (meaning t input)
given_whole emits.Hlfir t input = tt
given_whole emits.Schedule t input = tt

either_whole : (emit : Emit) (input : Option (List ℕ)) (answer : Answer) (text bytes : List ℕ) → ((t : Tree) × IsSource bytes t × IsGiven emit t input answer text) ⊎ IsRefusal bytes answer text → IsWhole answer.status
either_whole emit input answer text bytes (inl h) = subst (λ (a : Answer). IsWhole a.status) (sym h.2.is) (given_whole emit h.0 h.2.taken)
either_whole emit input answer text bytes (inr h) = subst (λ (a : Answer). IsWhole a.status) (sym h.2) tt

-- it comes with a whole text
answer_whole : (told : List ℕ → Option (List ℕ)) (r : Asked) (answer : Answer) (text : List ℕ) → IsAnswerOf told r answer text → IsWhole answer.status
answer_whole told r answer text h = either_whole r.emit _ answer text h.bytes h.is

not_whole : (status other : Status) → IsWhole status → status ≡ other → IsWhole other
not_whole status other w e = subst IsWhole e w

-- the text was written
pub written : (r : Asked) (o : Outside) (answer : Answer) (text : List ℕ) → IsAnswerOf o.told r answer text → o.written_now ≡ told_then o.written_before text → IsServed r o answer
written r o answer text h wrote =
    let w : IsWhole answer.status = answer_whole o.told r answer text h in
    record {
      no_usage = λ e. not_whole answer.status statuses.Usage w e;
      whole = λ v. (text, h, wrote);
      write_fault = λ e. absurd (not_whole answer.status statuses.WriteFault w e);
      prefix = λ e. absurd (not_whole answer.status statuses.WriteFault w e);
      silent = λ v e. absurd (v w);
      too_long = λ e. absurd (not_whole answer.status statuses.TooLong w e);
      read_fault = λ e. absurd (not_whole answer.status statuses.ReadFault w e);
      complete = λ calm within still. inl w;
      over_long = λ long calm. absurd (none_over_long o.told o.faults_before o.faults_now r answer text h long calm);
    }

-- a front of it was written
pub half_written : (r : Asked) (o : Outside) (answer : Answer) (text : List ℕ) → IsAnswerOf o.told r answer text → WritesPrefix o.written_before o.written_now text → Rose o.sink_before o.sink_now →
    IsServed r o (record { status = statuses.WriteFault; regions = answer.regions })
half_written r o answer text h part rose = record {
  no_usage = λ e. cc;
  whole = λ w. absurd w;
  write_fault = λ e. rose;
  prefix = λ e. (answer.status, text, h, part);
  silent = λ w e. absurd (e refl);
  too_long = λ e. absurd cc;
  read_fault = λ e. absurd cc;
  complete = λ calm within still. absurd (still rose);
  over_long = λ long calm. absurd (none_over_long o.told o.faults_before o.faults_now r answer text h long calm);
}
