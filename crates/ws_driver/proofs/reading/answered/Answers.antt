use Rattle.std.proofs.Common.{◌≤◌, refl, inl, inr, subst, ℕ, Result, Vec, Global}
use Rattle.std.specs.Prelude.{IfErr}
use Rattle.ws_io.specs.declared.whole.ReadEnd.{ReadEnd}
use Rattle.ws_driver.specs.declared.reading.TheConstants.{SOURCE_LIMIT}
use Rattle.ws_driver.specs.Request.{asked, data_of}
use Rattle.ws_driver.specs.Sources.{IsSource}
use Rattle.ws_driver.specs.Causes.{ReadsInput, IsRunnable, Reads, IsUnread}
use Rattle.ws_driver.proofs.Told.{told_one}
use Rattle.ws_driver.proofs.Failing.{unread_result, unread_later}
use Rattle.ws_driver.proofs.reading.answered.Goals as goal

pub returns-in-Err-clause-unread : goal.returns-in-Err-clause-unread
returns-in-Err-clause-unread g c =
    let P : Result (Vec ℕ Global) ReadEnd → Type 0 = λ r. IfErr r (IsUnread (g.F.Files.told c.args.files.now) (g.F.Files.faults c.args.files.now) (g.F.Files.faults c.read_whole.new.files) (Reads (g.F.Files.told c.args.files.now) (asked c.args.request))) in
    subst P c.in-Err.is
    (unread_result (g.F.Files.told c.args.files.now) (g.F.Files.faults c.args.files.now) (g.F.Files.faults c.read_whole.new.files) (Reads (g.F.Files.told c.args.files.now) (asked c.args.request)) c.args.request.source.now SOURCE_LIMIT c.read_whole.result
    (inl (refl, refl)) c.read_whole.ensures.too_long c.read_whole.ensures.failed)

pub returns-in-Ok-accepted-clause-unread : goal.returns-in-Ok-accepted-clause-unread
returns-in-Ok-accepted-clause-unread g c =
    unread_later (g.F.Files.told c.args.files.now) (g.F.Files.told c.read_whole.new.files) (g.F.Files.faults c.args.files.now) (g.F.Files.faults c.read_whole.new.files) (g.F.Files.faults c.given.new.files)
    (ReadsInput (data_of (asked c.args.request))) (Reads (g.F.Files.told c.args.files.now) (asked c.args.request)) c.given.result
    c.read_whole.ensures.kept c.read_whole.ensures.later
    (λ name limit reads. inr (
      reads,
      told_one (g.F.Files.told c.args.files.now c.args.request.source.now) c.in-Ok.source.items IsRunnable c.in-Ok.ensures.whole
          (subst (λ n. n ≤ SOURCE_LIMIT) c.in-Ok.source.ok.0 c.in-Ok.ensures.within, (c.in-Ok-accepted.checked, subst (λ b. IsSource b c.in-Ok-accepted.checked) c.as_slice.ensures.value c.in-Ok-accepted.ensures.tree)),
    ))
    c.given.ensures.unread
