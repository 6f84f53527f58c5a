use Rattle.block_server.proofs.Serving.{untold}
use Rattle.block_server.proofs.server.serve.Goals as goal

pub returns-in_default-clause-session : goal.returns-in_default-clause-session
returns-in_default-clause-session g c = untold g.N.PageSource.view c.args.device.now _ _ c.requires.device

pub returns-in_default-vec-clause-session : goal.returns-in_default-vec-clause-session
returns-in_default-vec-clause-session g c = untold g.N.PageSource.view c.args.device.now _ _ c.requires.device

pub returns-clause-unread : goal.returns-clause-unread
returns-clause-unread g c = λ is. absurd (c.serve_with.ensures.never is)

pub returns-clause-unwritten : goal.returns-clause-unwritten
returns-clause-unwritten g c = λ is. absurd (c.serve_with.ensures.never is)

pub returns-clause-untold : goal.returns-clause-untold
returns-clause-untold g c = λ is. absurd (c.serve_with.ensures.never is)
