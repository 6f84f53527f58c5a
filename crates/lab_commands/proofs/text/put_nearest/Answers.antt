use Rattle.std.proofs.Common.{List, ℕ, ◌++◌, append-nil, codes, subst, sym}
use Rattle.std.specs.Fmt.{decimal}
use Rattle.lab_commands.specs.Document.{Prints}
use Rattle.lab_commands.specs.Lines.{kind_words}
use Rattle.lab_commands.specs.Text.{nearest_words}
use Rattle.lab_commands.proofs.TextLemmas.{prints_fail, prints_puts}
use Rattle.lab_commands.proofs.text.put_nearest.Goals as goal

-- the words, by the pieces that they are put in
abbrev pieces : (at : ℕ) → (kind : List ℕ) → (number sequence : ℕ) → List ℕ
pieces at kind number sequence = codes "byte " ++ (decimal at ++ (codes " says " ++ (kind ++ (codes " " ++ (decimal number ++ (codes " sequence " ++ decimal sequence))))))

pub returns-clause-bytes : goal.returns-clause-bytes
returns-clause-bytes g c =
    let a = g.W.Output.contents c.args.out.now in
    let b = g.W.Output.contents c.put_pieces.new.out in
    let x = c.args.found in
    let broke = g.W.Output.failed c.put_pieces.new.out in
    prints_puts broke a b (nearest_words x) c.put_pieces.result
    (subst (λ (end : List ℕ). Prints broke a b (codes "byte " ++ (decimal x.at ++ (codes " says " ++ (kind_words x.says.kind ++ (codes " " ++ (decimal x.says.number ++ (codes " sequence " ++ end))))))) c.put_pieces.result) (sym (append-nil (decimal x.says.sequence)))
    (subst (λ (number : ℕ). Prints broke a b (pieces x.at (kind_words x.says.kind) number x.says.sequence) c.put_pieces.result) c.from.ensures
    (subst (λ (kind : List ℕ). Prints broke a b (pieces x.at kind c.from.result x.says.sequence) c.put_pieces.result) c.kind_text.ensures c.put_pieces.ensures)))

pub returns-clause-failed : goal.returns-clause-failed
returns-clause-failed g c =
    let a = g.W.Output.contents c.args.out.now in
    let b = g.W.Output.contents c.put_pieces.new.out in
    let x = c.args.found in
    let broke = g.W.Output.failed c.put_pieces.new.out in
    prints_fail broke a b (pieces x.at c.kind_text.result.now c.from.result x.says.sequence) c.put_pieces.result c.put_pieces.ensures
