use Rattle.std.proofs.Common.{refl}
use Rattle.ws_driver.specs.Causes.{ReadsInput}
use Rattle.std.specs.Option.{option_copied}
use Rattle.ws_driver.specs.declared.reading.TheConstants.{DATA_LIMIT}
use Rattle.ws_driver.proofs.Failing.{unread_result}
use Rattle.ws_driver.proofs.reading.read_input.Goals as goal

pub returns-in-Some-clause-unread : goal.returns-in-Some-clause-unread
returns-in-Some-clause-unread g c =
    unread_result (g.F.Files.told c.args.files.now) (g.F.Files.faults c.args.files.now) (g.F.Files.faults c.read_whole.new.files) (ReadsInput (option_copied c.args.input)) c.in-Some.name.now DATA_LIMIT c.read_whole.result
    (cc, refl) c.read_whole.ensures.too_long c.read_whole.ensures.failed
