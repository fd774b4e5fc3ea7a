-- A count owns nothing.
use denote.Param.Send.{IsSend}
use Rattle.pages.specs.contracts.count.Count.{the_row}

pub send : IsSend the_row
send = record { owned = λ n vs. ((λ vss. (tt, tt)), tt); leaving = λ k d w. tt }
