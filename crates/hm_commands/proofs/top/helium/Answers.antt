use Rattle.std.proofs.Common.{None, map}
use Rattle.std.specs.String.{string_bytes}
use Rattle.hm_commands.specs.Effect.{IsEffect, reads_for, usage_line}
use Rattle.hm_words.specs.Words.{form_of}
use Rattle.hm_commands.proofs.Carrying.{usage_said}
use Rattle.hm_commands.proofs.Ending.{Does-begins, DoesOne-usage, DoesOne-host_fault, DoesOne-risen, DoesOne-quiet}
use Rattle.hm_commands.proofs.Headlines.{headline_of, headline_of_none, order_of, order_of_none}
use Rattle.hm_work.proofs.Listed.{some_listings}
use Rattle.hm_commands.proofs.Single.{does_one}
use Rattle.hm_commands.proofs.SomeEffect.{some_effect}
use Rattle.hm_commands.proofs.top.helium.Goals as goal

pub returns-in-Some-clause-effect : goal.returns-in-Some-clause-effect
returns-in-Some-clause-effect g c = λ listings are F told.
    let words = map string_bytes c.args.words.now in
    does_one (reads_for (form_of words)) (IsEffect listings words F) F _ _ _ told (some_effect listings words F)
    (Does-begins listings _ words _ _ _ F c.in-Some.ensures.value (c.obey.ensures.effect listings are) told)

pub returns-in-None-clause-effect : goal.returns-in-None-clause-effect
returns-in-None-clause-effect g c = λ listings are F told.
    let words = map string_bytes c.args.words.now in
    let old = g.H.Host.state c.args.host.now in
    let new = g.H.Host.state c.say_usage.new.host in
    let said = usage_said usage_line old new c.say_usage.result c.say_usage.ensures.effect c.say_usage.ensures.calls in
    does_one (reads_for (form_of words)) (IsEffect listings words F) F old new c.say_usage.result told (some_effect listings words F)
    (Does-begins listings None words old new c.say_usage.result F c.in-None.ensures.value said told)

pub returns-in-Some-clause-headline : goal.returns-in-Some-clause-headline
returns-in-Some-clause-headline g c = headline_of _ _ _ _ _ c.in-Some.ensures.value c.obey.ensures.effect

pub returns-in-None-clause-headline : goal.returns-in-None-clause-headline
returns-in-None-clause-headline g c = headline_of_none _ _ _ _ c.in-None.ensures.value

pub returns-in-Some-clause-order : goal.returns-in-Some-clause-order
returns-in-Some-clause-order g c = order_of _ _ _ _ _ c.in-Some.ensures.value c.obey.ensures.effect

pub returns-in-None-clause-order : goal.returns-in-None-clause-order
returns-in-None-clause-order g c = order_of_none _ _ _ _ c.in-None.ensures.value

pub returns-in-Some-clause-usage_only : goal.returns-in-Some-clause-usage_only
returns-in-Some-clause-usage_only g c = λ is. absurd (DoesOne-usage _ _ _ _ _ (c.obey.ensures.effect some_listings.0 some_listings.1) is)

pub returns-in-Some-clause-fault : goal.returns-in-Some-clause-fault
returns-in-Some-clause-fault g c = DoesOne-host_fault _ _ _ _ _ (c.obey.ensures.effect some_listings.0 some_listings.1)

pub returns-in-Some-clause-fault_always : goal.returns-in-Some-clause-fault_always
returns-in-Some-clause-fault_always g c = DoesOne-risen _ _ _ _ _ (c.obey.ensures.effect some_listings.0 some_listings.1)

pub returns-in-Some-clause-memory : goal.returns-in-Some-clause-memory
returns-in-Some-clause-memory g c = DoesOne-quiet _ _ _ _ _ (c.obey.ensures.effect some_listings.0 some_listings.1)
