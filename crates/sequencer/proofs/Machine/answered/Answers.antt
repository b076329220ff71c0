-- A request that the tests let through has what it needs.
use Rattle.std.proofs.Common.{sym, ap, ◌∙◌}
use mathlib.Core.Path.{sym, ap, ◌∙◌}
use Rattle.refusal.specs.Refused.{number_in}
use Rattle.sequencer.proofs.Laws.{request_facts}
use Rattle.sequencer.proofs.Machine.answered.Goals as goal

pub queued_request-request-requires : goal.queued_request-request-requires
queued_request-request-requires c = let x = c.args in (request_facts x.self x.address (sym c.requires ∙ ap number_in c.in-Ok.is)).number
