use Rattle.text.proofs.+put_digits.Given as goal

-- how many digits are left to put
abbrev pub decreases-put_digits : goal.decreases-put_digits
decreases-put_digits l = l.most
