use Rattle.std.proofs.Common.{◌≡◌, refl, subst}
use Rattle.ws_io.specs.Bytes.{told_then, WritesPrefix}
use Rattle.ws_driver.specs.Request.{asked}
use Rattle.ws_driver.proofs.Served.{unread, written, half_written}
use Rattle.ws_driver.proofs.run.serve.Goals as goal

pub returns-in-Err : goal.returns-in-Err
returns-in-Err g c = unread (asked c.args.request) _ c.unread.result c.in-Err.end c.unread.ensures refl c.in-Err.ensures.unread

pub returns-in-Ok-write_whole : goal.returns-in-Ok-write_whole
returns-in-Ok-write_whole g c =
    written (asked c.args.request) _ c.in-Ok.answer.0 c.in-Ok.answer.1.items c.in-Ok.ensures.answer
    (subst (λ t. g.S.Sink.written c.write_whole.new.sink ≡ told_then (g.S.Sink.written c.args.out.now) t) c.as_slice.ensures.value c.in-Ok-write_whole.ensures.whole)

pub returns : goal.returns
returns g c =
    half_written (asked c.args.request) _ c.in-Ok.answer.0 c.in-Ok.answer.1.items c.in-Ok.ensures.answer
    (subst (λ t. WritesPrefix (g.S.Sink.written c.args.out.now) (g.S.Sink.written c.write_whole.new.sink) t) c.as_slice.ensures.value c.write_whole.ensures.prefix) c.in-Err-write_whole.ensures.cause.failed
