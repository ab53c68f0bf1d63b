-- What a member does next, and what it shows, as C has it.
use Rattle.std.specs.Prelude.{ℕ, Option, None, Some, if◌then◌else◌}
use Rattle.bully_member.specs.Activities.{work_of}
use Rattle.bully_member.specs.Member.{MemberState, offset_of}
use Rattle.bully_member.specs.Times.{sure_left}
use Rattle.bully_member.specs.declared.values.SessionId.{SessionId}
use Rattle.bully_member.specs.declared.values.Request.{Request}
use Rattle.bully_member.specs.declared.values.Step.{Step}
use Rattle.bully_c.specs.MemberNumbers.{until_number, ending_number, ending_or_none, reason_number, session_count}
use Rattle.bully_c.specs.MemberNumbers.{session_number, session_process, session_since, work_number, work_token}
use Rattle.bully_c.specs.declared.member_shown.CMember.{CMember}
use Rattle.bully_c.specs.declared.member_shown.CStep.{CStep}

abbrev pub no_step : CStep
no_step = record {
  at_most = 0;
  process = 0;
  number = 0;
  kind = 0;
  request = 0;
  until = 0;
  reason = 0;
  offset = 0;
  token = 0;
  ending = 0;
}

-- the step of the request with this number, of this session, at this offset
abbrev pub of_session : ℕ → Option SessionId → ℕ → CStep
of_session request None offset = record no_step { kind = 1; request = request; offset = offset }
of_session request (Some session) offset =
    record no_step { process = session.process; number = session.number; kind = 1; request = request; offset = offset }

abbrev pub request_shown : Request → CStep
request_shown (Request.Acquire session offset) = of_session 1 (Some session) offset
request_shown (Request.Renew session) = of_session 2 (Some session) 0
request_shown (Request.Release session) = of_session 3 (Some session) 0
request_shown Request.Snapshot = of_session 4 None 0
request_shown (Request.Promise session offset) = of_session 5 (Some session) offset
request_shown (Request.Append offset) = of_session 6 None offset
request_shown (Request.RollOver offset) = of_session 7 None offset
request_shown Request.Follow = of_session 8 None 0

abbrev pub step_shown : Step → CStep
step_shown (Step.Ask request) = request_shown request
step_shown (Step.Begin token) = record no_step { kind = 2; token = token }
step_shown Step.Stop = record no_step { kind = 3 }
step_shown (Step.Wait at_most until reason) =
    record no_step { at_most = at_most; kind = 4; until = until_number until; reason = reason_number reason }
step_shown (Step.BackOff at_most reason) =
    record no_step { at_most = at_most; kind = 5; reason = reason_number reason }
step_shown (Step.End ending) = record no_step { kind = 6; ending = ending_number ending }

abbrev pub member_shown : MemberState → (now : ℕ) → CMember
member_shown m now = record {
  process = session_process m.session;
  number = session_count m.session;
  since = session_since m.session;
  sure_left = sure_left m.session m.ttl now;
  session = session_number m.session;
  promised = m.promised;
  work = work_number (work_of m.works m.token m.is_lost);
  token = work_token (work_of m.works m.token m.is_lost);
  ending = ending_or_none m.ending;
  epoch = m.terms.epoch;
  offset = offset_of m;
  node = m.terms.node;
  has_request = if m.has_request then 1 else 0;
}
