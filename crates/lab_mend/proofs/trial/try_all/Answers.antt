use Rattle.std.proofs.Common.{◌≡◌, ◌∙◌, [], length, refl, sym, subst, arith}
use Rattle.std.specs.List.{filter}
use Rattle.lab_dump.specs.PageBytes.{is_sound, page_from_bytes}
use Rattle.lab_dump.proofs.PageLemmas.{bytes_again}
use Rattle.lab_mend.specs.declared.choice.Origin.TheVariants.{Tried}
use Rattle.lab_mend.specs.declared.trial.Trial.TheVariants.{Taken, Tied, Nothing}
use Rattle.lab_mend.specs.Trial.{with_turned}
use Rattle.lab_mend.specs.Choice.{Choice}
use Rattle.lab_mend.specs.Found.{HasTwo, WritesChoice}
use Rattle.lab_mend.specs.Tried.{HasFirst}
use Rattle.lab_mend.proofs.TriedLemmas.{turns_none, turns_nothing, turns_one, turns_two}
use Rattle.lab_mend.proofs.trial.try_all.Goals as goal

pub returns-in-Once : goal.returns-in-Once
returns-in-Once c =
    let size = c.args.geometry.now.data_bytes in
    let p = page_from_bytes size c.args.out.now in
    let inv = c.loop-turned.invariant in
    let n = c.loop-turned.turned in
    let met : HasFirst (filter is_sound (with_turned (page_from_bytes size c.loop-turned.out) c.args.bits.now n)) (page_from_bytes size c.try_turned.new.kept) = c.in-Once.ensures.met [] refl in
    let mine = subst (λ b. HasFirst (filter is_sound (with_turned (page_from_bytes size b) c.args.bits.now n)) (page_from_bytes size c.try_turned.new.kept)) inv.same met in
    let is = inv.rest ∙ turns_one p (page_from_bytes size c.try_turned.new.kept) c.args.bits.now n (length c.args.bits.now) (omega arith) refl mine in
    subst (λ (x : Choice). WritesChoice x (Tried (Taken n (length c.args.bits.now))) c.copy_from_slice.new.self) (sym is) (record { origin_is = refl; bytes_are = c.copy_from_slice.ensures.after ∙ sym (bytes_again size c.try_turned.new.kept) })

pub returns-in-Apart : goal.returns-in-Apart
returns-in-Apart c =
    let size = c.args.geometry.now.data_bytes in
    let p = page_from_bytes size c.args.out.now in
    let inv = c.loop-turned.invariant in
    let n = c.loop-turned.turned in
    let met : HasTwo (filter is_sound (with_turned (page_from_bytes size c.loop-turned.out) c.args.bits.now n)) = c.in-Apart.ensures.met [] refl in
    let mine = subst (λ b. HasTwo (filter is_sound (with_turned (page_from_bytes size b) c.args.bits.now n))) inv.same met in
    let is = inv.rest ∙ turns_two p c.args.bits.now n (length c.args.bits.now) (omega arith) refl mine in
    subst (λ (x : Choice). WritesChoice x (Tried (Tied n (length c.args.bits.now))) c.try_turned.new.bytes) (sym is) (record { origin_is = refl; bytes_are = c.in-Apart.ensures.same ∙ (inv.same ∙ sym (bytes_again size c.args.out.now)) })

pub loop-turned-preserved : goal.loop-turned-preserved
loop-turned-preserved c =
    let size = c.args.geometry.now.data_bytes in
    let p = page_from_bytes size c.args.out.now in
    let inv = c.loop-turned.invariant in
    let n = c.loop-turned.turned in
    let met : filter is_sound (with_turned (page_from_bytes size c.loop-turned.out) c.args.bits.now n) ≡ [] = c.in-Never.ensures.met [] refl in
    let mine = subst (λ b. filter is_sound (with_turned (page_from_bytes size b) c.args.bits.now n) ≡ []) inv.same met in
    record {
      same = c.in-Never.ensures.same ∙ inv.same;
      count = refl;
      room = c.try_turned.auto.kept ∙ inv.room;
      rest = inv.rest ∙ turns_none p c.args.bits.now n (length c.args.bits.now) (omega arith) mine;
    }

pub returns : goal.returns
returns c =
    let size = c.args.geometry.now.data_bytes in
    let p = page_from_bytes size c.args.out.now in
    let inv = c.loop-turned.invariant in
    let is = inv.rest ∙ turns_nothing p c.args.bits.now c.loop-turned.turned (length c.args.bits.now) (omega arith) refl in
    subst (λ (x : Choice). WritesChoice x (Tried (Nothing (length c.args.bits.now))) c.loop-turned.out) (sym is) (record { origin_is = refl; bytes_are = inv.same ∙ sym (bytes_again size c.args.out.now) })
