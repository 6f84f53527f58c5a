use Rattle.std.proofs.Common.{IfErr, subst, sym}
use Rattle.page_layout.specs.declared.look.PageLook.{PageLook}
use Rattle.commands.specs.Lines.{IsLineUnprinted}
use Rattle.commands.specs.Show.{look_line}
use Rattle.commands.proofs.show.print_look.Goals as goal

pub returns-in-Sound-clause-fault : goal.returns-in-Sound-clause-fault
returns-in-Sound-clause-fault g c =
    let P : PageLook → Type 0 = λ look. IfErr c.print_record.result (IsLineUnprinted (look_line c.args.version look) (g.W.Write.contents c.args.out.now) (g.W.Write.contents c.print_record.new.out)) in
    subst P (sym c.in-Sound.is) c.print_record.ensures.fault

pub returns-in-Erased-clause-fault : goal.returns-in-Erased-clause-fault
returns-in-Erased-clause-fault g c =
    let P : PageLook → Type 0 = λ look. IfErr c.print.result (IsLineUnprinted (look_line c.args.version look) (g.W.Write.contents c.args.out.now) (g.W.Write.contents c.print.new.out)) in
    subst P (sym c.in-Erased.is) c.print.ensures.fault

pub returns-in-Unsound-clause-fault : goal.returns-in-Unsound-clause-fault
returns-in-Unsound-clause-fault g c =
    let P : PageLook → Type 0 = λ look. IfErr c.print-in-Unsound.result (IsLineUnprinted (look_line c.args.version look) (g.W.Write.contents c.args.out.now) (g.W.Write.contents c.print-in-Unsound.new.out)) in
    subst P (sym c.in-Unsound.is) c.print-in-Unsound.ensures.fault
