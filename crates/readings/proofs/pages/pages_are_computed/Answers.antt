-- By the media, which look alike.
use Rattle.readings.proofs.Told.{pages_by_the_rules, media_look_alike, pages_are_computed}
use Rattle.readings.proofs.pages.pages_are_computed.Goals as goal

pub returns-clause-told : goal.returns-clause-told
returns-clause-told c = pages_by_the_rules

pub returns-clause-media : goal.returns-clause-media
returns-clause-media c = media_look_alike

pub returns-clause-pages : goal.returns-clause-pages
returns-clause-pages c = pages_are_computed
