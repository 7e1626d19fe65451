use borrow.Author.Tests.{le-leb, lt-leb}
use Rattle.turboshake.specs.Transcript.{domain_status}
use Rattle.turboshake.proofs.domain_status.Goals as goal

pub returns-then-domain-lt1 : goal.returns-then-domain-lt1
unfolding domain_status
returns-then-domain-lt1 c = simp (lt-leb _ _ c.if-domain-lt1.true)

pub returns-then-domain-gt127 : goal.returns-then-domain-gt127
unfolding domain_status
returns-then-domain-gt127 c = simp (le-leb _ _ c.if-domain-lt1.false, lt-leb _ _ c.if-domain-gt127.true)

pub returns : goal.returns
unfolding domain_status
returns c = simp (le-leb _ _ c.if-domain-lt1.false, le-leb _ _ c.if-domain-gt127.false)
