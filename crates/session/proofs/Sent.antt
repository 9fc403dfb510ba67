-- EVERY LINE SENT IS READ BACK as the message that was sent, by every controller with the same group. Assumes nothing.
use mathlib.Core.Path.{◌≡◌, refl, ap, ◌∙◌}
use mathlib.Core.Bool.{true}
use Rattle.units.specs.declared.settings.Numbers.{Numbers}
use Rattle.message.specs.declared.head.Head.{Head}
use Rattle.message.specs.declared.value.Message.{Message}
use Rattle.lines.specs.Reading.{read_line}
use Rattle.lines.specs.Values.{kind_is}
use Rattle.lines.specs.Writing.{spell_line}
use Rattle.lines.proofs.RoundTrip.{read_write}
use Rattle.lines.proofs.Saying.{not_x}
use Rattle.lines.proofs.Wire.{taken}
use Rattle.controller.specs.declared.state.Controller.{Controller}
use Rattle.controller.specs.Sent.{sent_message}
use Rattle.controller.specs.Step.{stepped}
use Rattle.controller_laws.specs.Sendings.{IsSent, MaySend}
use Rattle.controller_laws.specs.Sendings.MaySend.{reply, update, query, advert, floor, vote, setpoints}
use Rattle.controller_laws.proofs.Outcomes.{sent_head}
use Rattle.controller_laws.proofs.Sendings.{sent_fits, sent_few}

-- X is not sent as a message
sent_not_x : {s : Numbers} {c : Controller} {h head : Head} → MaySend s c h head → not_x head ≡ true
unfolding not_x kind_is
sent_not_x (reply b) = refl
sent_not_x (update l) = refl
sent_not_x (query e) = refl
sent_not_x (advert e) = refl
sent_not_x (floor e) = refl
sent_not_x (vote e) = refl
sent_not_x (setpoints w d) = refl

module _ (s : Numbers) (c : Controller) (a : Message) (head : Head) where
  abbrev pub sent : Message
  sent = sent_message s (stepped s c a).next head

  pub sent_back : IsSent (stepped s c a) head → read_line s.group (spell_line s.group sent) ≡ taken sent
  sent_back i = read_write s.group sent (sent_fits s c a head i) (ap not_x (sent_head s (stepped s c a).next head) ∙ sent_not_x (sent_few s c a head i))
