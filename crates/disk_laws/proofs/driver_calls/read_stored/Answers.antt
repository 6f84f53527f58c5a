use Rattle.std.specs.Prelude.{◌++◌}
use Rattle.disk_laws.proofs.CallLemmas.{page_leaves, page_stands}
use Rattle.disk_laws.proofs.driver_calls.read_stored.Goals as goal

pub returns-clause-asks : goal.returns-clause-asks
returns-clause-asks g c = λ h. record { stands = c.requires.stands h; in_range = c.requires.row_in; sends = c.read_page.ensures.sends; told = c.read_page.ensures.told }

pub returns-clause-stored : goal.returns-clause-stored
returns-clause-stored g c = λ h.
    let s = g.S.Store in
    page_leaves s.held s.honest s.failed c.args.row (c.read_page.new.body ++ c.read_page.new.spare) c.read_page.result c.args.driver.now c.read_page.new.self h (returns-clause-asks g c h)

pub returns-clause-stands : goal.returns-clause-stands
returns-clause-stands g c = λ h.
    let s = g.S.Store in
    page_stands s.held s.honest s.failed c.args.row (c.read_page.new.body ++ c.read_page.new.spare) c.read_page.result c.args.driver.now c.read_page.new.self h (returns-clause-asks g c h)
    c.read_page.ensures.geometry
