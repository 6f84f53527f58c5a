use Rattle.std.proofs.Common.{◌≡◌, ap, sym, ◌∙◌, arith, option_map}
use Rattle.serde_json.specs.View.{members_view, view}
use Rattle.serde_json.proofs.Views.{members_len-members_view}
use Rattle.disk_commands.specs.ShapeText.{members_of}
use Rattle.disk_commands.proofs.ShapeTextLemmas.{size_is}
use Rattle.disk_commands.proofs.shape_text.require_alone.Goals as goal

pub returns-in-Some-clause-fault : goal.returns-in-Some-clause-fault
returns-in-Some-clause-fault c = (
  c.args.second,
  c.requires.version,
  (
    c.len.result,
    size_is (view c.args.value.now) (members_view c.in-Some.members.now.entries) c.len.result
        (sym c.as_object.ensures ∙ ap (option_map (λ m. members_view m.now.entries)) c.in-Some.is) (members_len-members_view c.in-Some.members.now.entries ∙ sym c.len.ensures.len),
    λ is. absurd (omega (arith, is, c.members_wanted-wanted.ensures, c.if-len-wanted.true)),
  ),
)

pub returns-in-Some-2-clause-ok : goal.returns-in-Some-2-clause-ok
returns-in-Some-2-clause-ok c =
    let wanted : c.len.result ≡ members_of c.args.second = omega (arith, c.members_wanted-wanted.ensures, c.if-len-wanted.false) in
    size_is (view c.args.value.now) (members_view c.in-Some.members.now.entries) (members_of c.args.second)
    (sym c.as_object.ensures ∙ ap (option_map (λ m. members_view m.now.entries)) c.in-Some.is) (members_len-members_view c.in-Some.members.now.entries ∙ (sym c.len.ensures.len ∙ wanted))
