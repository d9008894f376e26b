-- The law of piles, of every height and in every order of layers, whose calendars keep the law of a calendar.
use Rattle.carrying.specs.Piles.{Pile, Sound}
use Rattle.carrying.specs.Answering.{Answers}
use Rattle.carrying.specs.Travelling.{Travels}

abbrev pub TheLawOfPiles : Type 0
TheLawOfPiles = (p q : Pile) → Sound p → Sound q → Answers p × Travels p q
