use Rattle.std.proofs.Common.{◌≡◌, ◌++◌, ℕ, List, refl, subst}
use Rattle.std.specs.Prelude.{codes}
use Rattle.std.specs.Fmt.{decimal}
use Rattle.lab_dump.specs.declared.said.SaidPage.{SaidPage}
use Rattle.lab_commands.specs.Document.{Prints}
use Rattle.lab_commands.specs.Lines.{kind_words, newer_words, said_words}
use Rattle.lab_commands.proofs.lines.put_says.Goals as goal

-- the line, piece by piece
said_pieces : (page : SaidPage) (row number : ℕ) (kind newer : List ℕ) → row ≡ page.row → kind ≡ kind_words page.says.kind → number ≡ page.says.number → newer ≡ newer_words page.newer
    → codes "unsound row " ++ (decimal row ++ (codes " says " ++ (kind ++ (codes " " ++ (decimal number ++ (codes " sequence " ++ (decimal page.says.sequence ++ newer))))))) ≡ said_words page
said_pieces page row number kind newer er ek en ew = rw (er, ek, en, ew) refl

pub returns : goal.returns
returns g c =
    subst (λ (t : List ℕ). Prints (g.W.Output.failed c.put_pieces.new.out) (g.W.Output.contents c.args.out.now) (g.W.Output.contents c.put_pieces.new.out) t c.put_pieces.result)
    (said_pieces c.args.page _ _ c.kind_text.result.now c.newer_text.result.now refl c.kind_text.ensures refl c.newer_text.ensures) c.put_pieces.ensures
