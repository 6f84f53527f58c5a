use Rattle.std.proofs.Common.{◌≡◌, ◌++◌, ◌∷◌, [], codes, ℕ, List, IfErr, OnOk, subst}
use Rattle.std.specs.Io.KnownBytes.{Appends}
use Rattle.std.specs.Fmt.{decimal}
use Rattle.commands.specs.Lines.{IsLineUnprinted}
use Rattle.commands.specs.Mount.{mounted_line}
use Rattle.commands.proofs.mount_image.print_mounted.Goals as goal

-- the line, by the texts of its numbers
line_by_texts : (next good stale : ℕ) (a b d : List ℕ) → a ≡ decimal next → b ≡ decimal good → d ≡ decimal stale
    → codes "mounted next " ++ (a ++ (codes " good " ++ (b ++ (codes " stale " ++ (d ++ (10 ∷ [])))))) ≡ mounted_line next good stale
line_by_texts next good stale a b d p q r = λ i. codes "mounted next " ++ (p i ++ (codes " good " ++ (q i ++ (codes " stale " ++ (r i ++ (10 ∷ []))))))

pub returns-clause-ok : goal.returns-clause-ok
returns-clause-ok g c =
    let m = c.args.mounted.now in
    let line = line_by_texts m.next m.good m.stale _ _ _ c.format.ensures.text c.format-2.ensures.text c.format-3.ensures.text in
    let P : List ℕ → Type 0 = λ l. OnOk c.print.result (Appends (g.W.Write.contents c.args.out.now) (g.W.Write.contents c.print.new.out) l) in
    subst P line c.print.ensures.ok

pub returns-clause-fault : goal.returns-clause-fault
returns-clause-fault g c =
    let m = c.args.mounted.now in
    let line = line_by_texts m.next m.good m.stale _ _ _ c.format.ensures.text c.format-2.ensures.text c.format-3.ensures.text in
    let P : List ℕ → Type 0 = λ l. IfErr c.print.result (IsLineUnprinted l (g.W.Write.contents c.args.out.now) (g.W.Write.contents c.print.new.out)) in
    subst P line c.print.ensures.fault
