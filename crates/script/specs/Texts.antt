-- The text of answers.
use Rattle.std.specs.Prelude.{ℕ, Bool, cond, List, ◌++◌, Ok, Err, codes, decimal, Result}
use Rattle.carrier.specs.Names.{lane_text}
use Rattle.carrier.specs.Numbers.{place_number}
use Rattle.carrier.specs.declared.lane.Lane.{Lane}
use Rattle.carrier.specs.declared.lane.PlaceRefusal.{PlaceRefusal}
use Rattle.consumer.specs.Cycled.{refusal_number}
use Rattle.consumer.specs.Judgment.{cycle_number, cycle_place}
use Rattle.consumer.specs.declared.event.CycleAnswer.{CycleAnswer}
use Rattle.consumer.specs.declared.event.CycleRefusal.{CycleRefusal}
use Rattle.consumer.specs.declared.event.Event.{Event}
use Rattle.consumer.specs.declared.event.Event.TheVariants.{Disabled, Started, Expired, Nothing, Ignored, Fault, Accepted}
use Rattle.consumer.specs.declared.state.Shown.{Shown}
use Rattle.message.specs.Flags.{request_octet}
use Rattle.message.specs.declared.request.Request.{Request}
use Rattle.provider.specs.Serve.{serve_number}
use Rattle.provider.specs.declared.answer.ServeAnswer.{ServeAnswer}
use Rattle.provider.specs.declared.answer.ServeAnswer.TheVariants.{Idle, New, Again}
use Rattle.provider.specs.declared.answer.ServeRefusal.{ServeRefusal}
use Rattle.text.specs.Hexadecimal.{hexadecimal_text}

abbrev pub flag_text : Bool → List ℕ
flag_text flag = cond flag (codes "on") (codes "off")

abbrev pub mark_text : Bool → List ℕ
mark_text substitutes = cond substitutes (codes "substitutes") (codes "process")

-- what was refused, and the refusal's number
abbrev pub refused_text : List ℕ → ℕ → List ℕ
refused_text name number = name ++ (codes ": refused " ++ decimal number)

-- an event; a fault with its number and its place
abbrev pub event_text : Event → List ℕ
event_text Disabled = codes "disabled"
event_text Started = codes "started"
event_text Expired = codes "expired"
event_text Nothing = codes "none"
event_text Ignored = codes "ignored"
event_text (Fault fault) = codes "fault " ++ (decimal (cycle_number fault) ++ (codes " at " ++ decimal (cycle_place fault)))
event_text Accepted = codes "accepted"

-- what is shown: the mark, the record and the three flags
abbrev pub shown_text : {K : Type 0} → (K → List ℕ) → Shown K → List ℕ
shown_text written shown =
    mark_text shown.fsv_activated ++ (codes " " ++ (written shown.safety_data
    ++ (codes " wish=" ++ (flag_text shown.operator_ack_requested
    ++ (codes " ack-provider=" ++ (flag_text shown.operator_ack_provider
    ++ (codes " test-mode=" ++ flag_text shown.test_mode_activated)))))))

-- what a cycle at this reading answered
abbrev pub cycle_text : {K : Type 0} → (K → List ℕ) → ℕ → Result (CycleAnswer K) CycleRefusal → List ℕ
cycle_text written reading (Ok answer) =
    codes "cycle " ++ (decimal reading ++ (codes ": " ++ (shown_text written answer.shown
    ++ (codes " event=" ++ event_text answer.event))))
cycle_text written reading (Err refusal) = codes "cycle " ++ (decimal reading ++ (codes ": refused " ++ decimal (refusal_number refusal)))

-- a request that was answered, new or again, and the octets that were sent
abbrev pub answered_text : Request → List ℕ → List ℕ → List ℕ
answered_text request age sent =
    codes "serve: answered consumer=" ++ (decimal request.consumer_id
    ++ (codes " number=" ++ (decimal request.monitoring_number
    ++ (codes " flags=" ++ (decimal (request_octet request.flags)
    ++ (codes " " ++ (age ++ (codes " sent=" ++ hexadecimal_text sent))))))))

-- what a serve did
abbrev pub served_text : ServeAnswer → List ℕ → List ℕ
served_text Idle sent = codes "serve: idle"
served_text (New request) sent = answered_text request (codes "new") sent
served_text (Again request) sent = answered_text request (codes "again") sent

-- what a serve answered
abbrev pub serve_text : Result ServeAnswer ServeRefusal → List ℕ → List ℕ
serve_text (Ok answer) sent = served_text answer sent
serve_text (Err refusal) sent = codes "serve: refused " ++ decimal (serve_number refusal)

-- what a place on this lane answered
abbrev pub place_text : Lane → Result Unit PlaceRefusal → List ℕ
place_text lane (Ok _) = codes "place " ++ (lane_text lane ++ codes ": taken")
place_text lane (Err refusal) = codes "place " ++ (lane_text lane ++ (codes ": refused " ++ decimal (place_number refusal)))
