use Rattle.text.proofs.Numbers.{put_one, put_more}
use Rattle.text.proofs.+put_number.Goals as goal

pub returns-then-n-lt10 : goal.returns-then-n-lt10
returns-then-n-lt10 t c = search put_one

pub returns : goal.returns
returns t c = search put_more
