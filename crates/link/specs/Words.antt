-- The words of the crates below that the laws use.
pub use Rattle.carrier.specs.declared.lane.Lane.{Lane}
pub use Rattle.carrier.specs.declared.lane.PlaceRefusal.{PlaceRefusal}
pub use Rattle.carrier.specs.Fetch.{Brought, Got, Came, MadeUp, first_of, rest_of, steady_fetch}
pub use Rattle.carrier.specs.Lanes.{Message, Lanes, lane_of, slots_of, other, with_lane, NoGain, Fixed, HasSlots}
pub use Rattle.carrier.specs.Place.{Placed, Put, sendable, full, steady_place, steady_answer}
pub use Rattle.consumer.specs.declared.event.CycleAnswer.{CycleAnswer}
pub use Rattle.consumer.specs.declared.event.Turn.{Turn}
pub use Rattle.consumer.specs.declared.inputs.Inputs.{Inputs}
pub use Rattle.consumer.specs.declared.setup.Setup.{Setup}
pub use Rattle.consumer.specs.declared.state.Shown.{Shown}
pub use Rattle.consumer.specs.declared.state.State.{State}
pub use Rattle.consumer.specs.declared.state.TimedRequest.{TimedRequest}
pub use Rattle.consumer.specs.Judgment.{number_of, accepted_before, with_record, with_number}
unfoldable pub use Rattle.consumer.specs.Judgment.{judged}
pub use Rattle.consumer.specs.Steps.{blank, fresh, ran_back, time_of, is_edge, has_expired, turn_of, brought_turn, standing_turn, fetches, interval, is_repeated, wish_ended, after_fault, accepting, asking, after_turn, cycle, makes, made_if, made, event_of, answer_of}
unfoldable pub use Rattle.consumer.specs.Steps.{turn}
pub use Rattle.message.specs.declared.flags.ResponseFlags.{ResponseFlags}
pub use Rattle.message.specs.declared.identity.Identities.{Identities}
pub use Rattle.message.specs.declared.parameters.Parameters.{Parameters}
pub use Rattle.message.specs.declared.request.Request.{Request}
pub use Rattle.message.specs.declared.response.Response.{Response}
pub use Rattle.message.specs.Check.{checked, record_read}
pub use Rattle.message.specs.Identity.{identities_of}
pub use Rattle.message.specs.Layout.{request_octets, request_read}
unfoldable pub use Rattle.message.specs.Layout.{u32_at}
pub use Rattle.message.specs.Number.{next_number}
pub use Rattle.message.specs.Response.{longest, response_of, response_octets}
unfoldable pub use Rattle.message.specs.Response.{with_signature}
pub use Rattle.message.specs.Sound.{sound, all_zero}
pub use Rattle.provider.specs.declared.answer.ServeAnswer.{ServeAnswer}
pub use Rattle.provider.specs.declared.answer.ServeRefusal.{ServeRefusal}
pub use Rattle.provider.specs.Serve.{Memory, is_again, new_response, response_to, reply_to, reply, remembered, told_of, told_to, told}
pub use Rattle.record.specs.Kind.{Format, Lawful}
pub use Rattle.record.specs.Octets.{Octets, le, un}
