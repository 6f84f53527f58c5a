use Rattle.std.proofs.Common.{ℕ, List, subst}
use Rattle.request_stream.specs.Frames.{SendsLine}
use Rattle.commands.proofs.SaidLemmas.{device_line, device_unstored_line, one_line, text_line, texts_line, two_line}
use Rattle.commands.proofs.said.send_said.Goals as goal

pub returns-in-Text : goal.returns-in-Text
returns-in-Text g c =
    let P : List ℕ → Type 0 = λ line. SendsLine (g.W.Write.contents c.args.out.now) (g.W.Write.contents c.send_line.new.out) line c.send_line.result in
    subst P (text_line c.args.area.now c.args.said c.in-Text.text c.in-Text.is) c.send_line.ensures

pub returns-in-Texts : goal.returns-in-Texts
returns-in-Texts g c =
    let P : List ℕ → Type 0 = λ line. SendsLine (g.W.Write.contents c.args.out.now) (g.W.Write.contents c.send_line-in-Texts.new.out) line c.send_line-in-Texts.result in
    subst P (texts_line c.args.area.now c.args.said c.in-Texts.text c.in-Texts.other c.in-Texts.is) c.send_line-in-Texts.ensures

pub returns-in-One : goal.returns-in-One
returns-in-One g c =
    let P : List ℕ → Type 0 = λ line. SendsLine (g.W.Write.contents c.args.out.now) (g.W.Write.contents c.send_line-in-One.new.out) line c.send_line-in-One.result in
    subst P (one_line c.args.area.now c.format.result.now c.args.said c.in-One.text c.in-One.number c.in-One.is c.format.ensures.text) c.send_line-in-One.ensures

pub returns-in-Two : goal.returns-in-Two
returns-in-Two g c =
    let P : List ℕ → Type 0 = λ line. SendsLine (g.W.Write.contents c.args.out.now) (g.W.Write.contents c.send_line-in-Two.new.out) line c.send_line-in-Two.result in
    subst P (two_line c.args.area.now c.format-in-Two.result.now c.format-in-Two-2.result.now c.args.said c.in-Two.text c.in-Two.first c.in-Two.other c.in-Two.second c.in-Two.is
    c.format-in-Two.ensures.text c.format-in-Two-2.ensures.text) c.send_line-in-Two.ensures

pub returns-in-Device : goal.returns-in-Device
returns-in-Device g c =
    let P : List ℕ → Type 0 = λ line. SendsLine (g.W.Write.contents c.args.out.now) (g.W.Write.contents c.send_device.new.out) line c.send_device.result in
    subst P (device_line c.args.area.now c.args.said c.in-Device.refused c.in-Device.is) c.send_device.ensures

pub returns-in-DeviceUnstored : goal.returns-in-DeviceUnstored
returns-in-DeviceUnstored g c =
    let P : List ℕ → Type 0 = λ line. SendsLine (g.W.Write.contents c.args.out.now) (g.W.Write.contents c.send_device-in-DeviceUnstored.new.out) line c.send_device-in-DeviceUnstored.result in
    subst P (device_unstored_line c.args.area.now c.args.said c.in-DeviceUnstored.refused c.in-DeviceUnstored.path c.in-DeviceUnstored.is) c.send_device-in-DeviceUnstored.ensures
