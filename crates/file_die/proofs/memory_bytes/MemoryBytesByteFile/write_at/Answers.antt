use Rattle.std.proofs.Common.{◌≡◌, ◌∙◌, List, ℕ, ap, sym, subst, length}
use Rattle.std.specs.Prelude.{Ok}
use Rattle.std.proofs.lemmas.List.{with_items_is}
use Rattle.file_die.specs.Bytes.{WritesBytes, KeepsTold, over}
use Rattle.file_die.proofs.BytesLemmas.{standing_bytes, all_at_once, told_at_once}
use Rattle.file_die.proofs.memory_bytes.MemoryBytesByteFile.write_at.Goals as goal

pub returns-clause-writes : goal.returns-clause-writes
returns-clause-writes c honest start =
    let old = c.args.self.now.bytes in
    let given : List ℕ = c.args.bytes.now in
    let new : List ℕ = c.paste.new.bytes in
    let is : new ≡ over c.args.at given old.items = c.paste.ensures ∙ ap (over c.args.at given) c.deref_mut.ensures.value in
    let stands = with_items_is old new (c.paste.auto.bytes ∙ c.deref_mut.ensures.len) ∙ is in
    subst (λ (xs : List ℕ). WritesBytes (standing_bytes old.items) c.args.at given (Ok (length given)) (standing_bytes xs)) (sym stands) (all_at_once c.args.at given old.items)

pub returns-clause-told : goal.returns-clause-told
returns-clause-told c honest start size reads tells =
    let old = c.args.self.now.bytes in
    let given : List ℕ = c.args.bytes.now in
    let new : List ℕ = c.paste.new.bytes in
    let is : new ≡ over c.args.at given old.items = c.paste.ensures ∙ ap (over c.args.at given) c.deref_mut.ensures.value in
    let stands = with_items_is old new (c.paste.auto.bytes ∙ c.deref_mut.ensures.len) ∙ is in
    subst (λ (xs : List ℕ). KeepsTold size reads (over c.args.at given old.items) (standing_bytes old.items) (standing_bytes xs)) (sym stands) (told_at_once size reads old.items (over c.args.at given old.items))
