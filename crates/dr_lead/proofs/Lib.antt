mod Highest
