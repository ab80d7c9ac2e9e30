use Rattle.hm_order.proofs.Headline.{stops_in_order, explained, stops_at, stop_position, in_order_before, made_there, unmade}
use Rattle.hm_order.proofs.stops.Goals as goal

pub returns : goal.returns
returns g c = record {
  order = λ M first c e h live. stops_in_order M first c.n e live (explained M first c e h);
  reason = λ M laws first c w h. stops_in_order M first c.n (M.stop_of w) (laws.untainted w) (explained M first c (M.stop_of w) h);
  state = stops_at;
  position = stop_position;
  before = in_order_before;
  made = made_there;
  unmade = unmade;
}
